use Rattle.std.proofs.Common.{◌≡◌, length}
use Rattle.cell_tree.proofs.CountLemmas.{IsCount}
use Rattle.cell_tree.proofs.TableLemmas.{Known}
use Rattle.cell_tree.proofs.crowds.count_shapes.Given as goal

abbrev pub invariant-loop-cell : goal.invariant-loop-cell
invariant-loop-cell l = (length l.counts.items ≡ length l.linked.cells) × Known (IsCount l.linked.cells) 0 l.order l.counts.items l.cell-index
