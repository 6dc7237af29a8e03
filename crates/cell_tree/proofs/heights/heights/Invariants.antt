use Rattle.std.proofs.Common.{◌≡◌, length}
use Rattle.cell_tree.specs.Heights.{IsHeight}
use Rattle.cell_tree.proofs.TableLemmas.{Known}
use Rattle.cell_tree.proofs.heights.heights.Given as goal

abbrev pub invariant-loop-cell : goal.invariant-loop-cell
invariant-loop-cell l = (length l.heights.items ≡ length l.linked.cells) × Known (IsHeight l.linked.cells) 0 l.order l.heights.items l.cell-index
