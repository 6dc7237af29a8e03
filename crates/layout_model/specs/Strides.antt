-- Coordinates by number: those of steps that are all alike, and those of a grid's places on one axis. This is for the
-- contracts of the search in a grid.
use Rattle.std.specs.Prelude.{◌≤◌, ◌<◌, ◌%◌, ◌/◌, ℕ, ℤ, pos, ◌+ℤ◌, ◌*ℤ◌, ◌≤ℤ◌, ◌^◌, neg_ℤ, Option, MatchOption}
use Rattle.half_grid.specs.Reach.{IsWithinReach}
use Rattle.layout_model.specs.Intervals.{IsBetween}
use Rattle.layout_model.specs.declared.intervals.Interval.{Interval}
use Rattle.layout_model.specs.declared.strides.Stride.{Stride}
use Rattle.layout_model.specs.declared.strides.Ruler.{Ruler}

-- after n steps
abbrev pub after_steps : Stride → ℕ → ℤ
after_steps stride n = stride.start +ℤ (pos n *ℤ stride.step)

-- place k of a grid
abbrev pub mark : Ruler → ℕ → ℤ
mark ruler k = (pos (k % ruler.nu) *ℤ ruler.u) +ℤ (pos (k / ruler.nu) *ℤ ruler.v)

pub record IsNearby (z : ℤ) : Type 0 where
  pub low : neg_ℤ (pos (2 ^ 45)) ≤ℤ z
  pub high : z ≤ℤ pos (2 ^ 45)

pub record IsNearInterval (interval : Interval) : Type 0 where
  pub low : IsNearby interval.low
  pub high : IsNearby interval.high

pub record IsStride (stride : Stride) (count : ℕ) : Type 0 where
  pub start : IsNearby stride.start
  pub step : IsNearby stride.step
  pub few : count ≤ 16777216
  pub reach : (n : ℕ) → n < count → IsWithinReach (after_steps stride n)

pub record IsRuler (ruler : Ruler) : Type 0 where
  pub some_columns : 1 ≤ ruler.nu
  pub few_columns : ruler.nu ≤ 16777216
  pub some_rows : 1 ≤ ruler.nv
  pub few_rows : ruler.nv ≤ 16777216
  pub u : IsNearby ruler.u
  pub v : IsNearby ruler.v
  pub reach : (a b : ℕ) → a < ruler.nu → b < ruler.nv → IsWithinReach ((pos a *ℤ ruler.u) +ℤ (pos b *ℤ ruler.v))

-- of coordinates by number none from number `from` up to below `end` is between the two
abbrev pub HasNoneBetween : Interval → (ℕ → ℤ) → ℕ → ℕ → Type 0
HasNoneBetween interval coordinate from end = (k : ℕ) → from ≤ k → k < end → ¬ IsBetween interval.low interval.high (coordinate k)

-- of those up to below `end` the first that is, from number `from` on, is k
pub record IsFirstBetween (interval : Interval) (coordinate : ℕ → ℤ) (from end k : ℕ) : Type 0 where
  pub after : from ≤ k
  pub before : k < end
  pub inside : IsBetween interval.low interval.high (coordinate k)
  pub none : HasNoneBetween interval coordinate from k

abbrev pub Finds : Interval → (ℕ → ℤ) → ℕ → ℕ → Option ℕ → Type 0
Finds interval coordinate from end found = MatchOption found (HasNoneBetween interval coordinate from end) (IsFirstBetween interval coordinate from end)
