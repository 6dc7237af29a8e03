use Rattle.std.proofs.Common.{◌≡◌, length, All, None}
use Rattle.cell_tree.specs.Factors.{IsFarthest, IsCapped}
use Rattle.cell_tree.proofs.TableLemmas.{Known}
use Rattle.cell_tree.proofs.factors.farthest.Given as goal

abbrev pub invariant-loop-cell : goal.invariant-loop-cell
invariant-loop-cell l = (length l.farthest.items ≡ length l.linked.cells) × All IsCapped l.farthest.items
    × Known (IsFarthest l.linked.cells l.only_fixed) None l.order l.farthest.items l.cell-index
