use Rattle.std.proofs.Common.{◌^◌, subst, sym}
use Rattle.cell_tree.specs.Boxes.{IsBoxUpTo}
use Rattle.cell_tree.proofs.OwnLemmas.{moves_least, moves_up_to}
use Rattle.cell_tree.proofs.hulls.moves_of.Goals as goal

pub returns-clause-least : goal.returns-clause-least
returns-clause-least c = moves_least c.args.placement.now c.hull.result c.moved.result c.hull.ensures c.moved.ensures

pub returns-clause-small : goal.returns-clause-small
returns-clause-small c = subst (IsBoxUpTo (2 ^ 43)) (sym c.moved.ensures) (moves_up_to c.args.placement.now c.hull.result c.requires c.hull.ensures)
