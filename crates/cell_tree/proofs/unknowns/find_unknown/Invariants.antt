use Rattle.std.proofs.Common.{◌≡◌, ℕ, ◌<◌, Some, None, slice_get}
use Rattle.cell_tree.specs.Cells.{targets_at}
use Rattle.cell_tree.proofs.unknowns.find_unknown.Given as goal

abbrev pub invariant-loop-cell : goal.invariant-loop-cell
invariant-loop-cell l = (j n k : ℕ) → j < l.cell-index → slice_get l.order j ≡ Some n → slice_get (targets_at l.linked.cells n) k ≡ Some None → ⊥
