use Rattle.std.proofs.Common.{sym, subst}
use Rattle.layout_model.specs.ShapeLists.{shape_in}
use Rattle.flat_walk.specs.Boxes.{HasBox}
use Rattle.flat_walk.specs.PieceLists.{listed}
use Rattle.flat_walk.proofs.BoxLemmas.{shape_boxed, bare_boxed, places_near, origin_near}
use Rattle.flat_walk.proofs.boxes.box_of_shape.Goals as goal

pub summed-requires-clause-b : goal.summed-requires-clause-b
summed-requires-clause-b c = places_near (shape_in c.args.shape).offsets c.spread.result c.requires.grid.offsets c.spread.ensures

pub returns-in-Some : goal.returns-in-Some
returns-in-Some c =
    shape_boxed (shape_in c.args.shape) (listed c.args.pieces) c.in-Some.around c.spread.result c.summed.result
    c.in-Some.ensures.around c.spread.ensures.around
    c.in-Some.ensures.near (places_near (shape_in c.args.shape).offsets c.spread.result c.requires.grid.offsets c.spread.ensures) c.summed.ensures

pub returns-in-None : goal.returns-in-None
returns-in-None c =
    subst (λ l. HasBox (shape_in c.args.shape) l c.box_of.result) (sym c.in-None.ensures.around)
    (bare_boxed (shape_in c.args.shape) c.box_of.result (c.box_of.ensures.near origin_near))
