use Rattle.std.proofs.Common.{◌≡◌, ℕ, ◌+◌, ◌≤◌, ◌-◌, Some, length, slice_get}
use Rattle.square_size.specs.Levels.{IsBefore}
use Rattle.square_size.specs.declared.levels.Level.{Level}
use Rattle.square_size.proofs.levels.rank.Given as goal

abbrev pub invariant-loop-low : goal.invariant-loop-low
invariant-loop-low l = record {
  order : l.low ≤ l.high;
  within : l.high ≤ length l.levels;
  last : (j : ℕ) (a : Level) → j + 1 ≡ l.low → slice_get l.levels j ≡ Some a → IsBefore a l.side;
  next : (a : Level) → slice_get l.levels l.high ≡ Some a → IsBefore a l.side → ⊥;
}

abbrev pub decreases-loop-low : goal.decreases-loop-low
decreases-loop-low l = l.high - l.low
