use Rattle.std.proofs.Common.{◌≡◌, ℕ, ◌<◌, Some, None, slice_get}
use Rattle.cell_tree.proofs.unknowns.first_unknown.Given as goal

abbrev pub invariant-loop-k : goal.invariant-loop-k
invariant-loop-k l = (j : ℕ) → j < l.k → slice_get l.targets j ≡ Some None → ⊥
