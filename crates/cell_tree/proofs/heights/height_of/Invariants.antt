use Rattle.std.proofs.Common.{◌≡◌, ◌⊎◌, ℕ, ◌<◌, ◌≤◌, Some, get_or, slice_get}
use Rattle.cell_tree.proofs.heights.height_of.Given as goal

abbrev pub invariant-loop-target : goal.invariant-loop-target
invariant-loop-target l = ((k m : ℕ) → k < l.target-index → slice_get l.targets k ≡ Some (Some m) → get_or l.heights m 0 ≤ l.tallest)
    × ((l.tallest ≡ 0) ⊎ ((k : ℕ) × (m : ℕ) × (slice_get l.targets k ≡ Some (Some m)) × (l.tallest ≡ get_or l.heights m 0)))
