use Rattle.std.proofs.Common.{sym, subst, ◌-◌}
use Rattle.layout_model.specs.Images.{enlarged}
use Rattle.oas_shapes.specs.Plane.{origin, IsNearInSteps}
use Rattle.oas_shapes.specs.Ways.{way_of}
use Rattle.oas_shapes.proofs.TrailLemmas.{origin_near, from_origin}
use Rattle.oas_shapes.proofs.lattices.last.Goals as goal

pub returns-in-None-clause-none : goal.returns-in-None-clause-none
returns-in-None-clause-none c = λ near.
    c.in-None.ensures.none origin origin_near (subst IsNearInSteps (sym (from_origin (enlarged (c.args.count - 1) (way_of c.args.step)))) near)
