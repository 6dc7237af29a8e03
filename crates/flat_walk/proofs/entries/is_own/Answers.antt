use Rattle.std.proofs.Common.{◌∙◌, sym, subst}
use Rattle.half_grid.specs.Trapezoids.{IsShot}
use Rattle.layout_model.specs.ShapeLists.{shape_in}
use Rattle.flat_walk.proofs.entries.is_own.Goals as goal

pub returns-in-Some-clause-shape : goal.returns-in-Some-clause-shape
returns-in-Some-clause-shape c = λ true.
    record {
      shape = shape_in c.get.result;
      here = c.get.ensures;
      frame = c.in-Some.frame;
      is = sym c.own_frame.ensures ∙ c.in-Some.is;
      shot = subst IsShot (c.is_upright.ensures.is true) c.is_upright.ensures.shot;
    }
