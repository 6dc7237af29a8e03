-- The levels at which a sum over rows rises by one, and those at which it falls by one.
use Rattle.std.specs.Prelude.{ℕ, ℤ, pos, ◌-ℤ◌, ◌≡◌, List, count_by, length, All, int_le}
use Rattle.half_grid.specs.Reach.{IsWithinReach}
use Rattle.column_sweep.specs.declared.sums.Level.{Level}

-- those at the row or below it
abbrev pub up_to : ℤ → List Level → ℕ
up_to j levels = count_by (λ level. int_le level.y j) levels

-- the sum in a row
unfoldable pub height : ℤ → List Level → List Level → ℤ
height j rises falls = pos (up_to j rises) -ℤ pos (up_to j falls)

-- levels within reach at which this sum rises and falls, as many of each
pub record AreSteps (sum : ℤ → ℤ) (rises falls : List Level) : Type 0 where
  pub sums : (j : ℤ) → height j rises falls ≡ sum j
  pub as_many : length rises ≡ length falls
  pub rises_within : All (λ level. IsWithinReach level.y) rises
  pub falls_within : All (λ level. IsWithinReach level.y) falls
