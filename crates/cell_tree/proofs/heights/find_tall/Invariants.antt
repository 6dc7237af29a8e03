use Rattle.std.proofs.Common.{◌≡◌, ℕ, ◌<◌, Some, get_or, slice_get}
use Rattle.cell_tree.proofs.heights.find_tall.Given as goal

abbrev pub invariant-loop-target : goal.invariant-loop-target
invariant-loop-target l = (k m : ℕ) → k < l.target-index → slice_get l.targets k ≡ Some (Some m) → get_or l.heights m 0 < l.least
