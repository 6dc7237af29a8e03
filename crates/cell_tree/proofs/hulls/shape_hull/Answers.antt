use Rattle.layout_model.specs.ShapeLists.{shape_in}
use Rattle.cell_tree.proofs.BoxLemmas.{least_of}
use Rattle.cell_tree.proofs.OwnLemmas.{points_up_to, shape_least}
use Rattle.cell_tree.proofs.hulls.shape_hull.Goals as goal

pub summed-requires-clause-a : goal.summed-requires-clause-a
summed-requires-clause-a c =
    points_up_to (shape_in c.args.shape) c.hull-outline.result c.requires (least_of (shape_in c.args.shape).points c.hull-outline.result c.hull-outline.ensures)

pub returns : goal.returns
returns c =
    shape_least (shape_in c.args.shape) c.hull-outline.result c.spread-moves.result c.summed.result
    (least_of (shape_in c.args.shape).points c.hull-outline.result c.hull-outline.ensures) c.spread-moves.ensures c.summed.ensures
