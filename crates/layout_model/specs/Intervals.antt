-- Points by one of their coordinates, and the first of a list of places whose coordinate lies in an interval.
use Rattle.std.specs.Prelude.{◌≡◌, ◌≤ℤ◌, ◌≤◌, ◌<◌, ℕ, ℤ, List, Some, slice_get}
use Rattle.half_grid.specs.declared.plane.Point.{Point}
use Rattle.layout_model.specs.declared.intervals.Axis.{Axis}
use Rattle.layout_model.specs.declared.intervals.Axis.TheVariants.{X, Y}
use Rattle.layout_model.specs.declared.intervals.Interval.{Interval}

-- the coordinate on an axis
abbrev pub along : Axis → Point → ℤ
along X p = p.x
along Y p = p.y

pub record IsBetween (low high z : ℤ) : Type 0 where
  pub above : low ≤ℤ z
  pub below : z ≤ℤ high

-- the point's coordinate on the interval's axis is from `low` up to `high`
abbrev pub IsInInterval : Interval → Point → Type 0
IsInInterval interval p = IsBetween interval.low interval.high (along interval.axis p)

-- no place from number `from` up to below `end` is in the interval
abbrev pub HasNoneIn : Interval → List Point → ℕ → ℕ → Type 0
HasNoneIn interval places from end = (k : ℕ) (p : Point) → from ≤ k → k < end → slice_get places k ≡ Some p → ¬ IsInInterval interval p

-- from number `from` on place k is the first that is in the interval
pub record IsFirstIn (interval : Interval) (places : List Point) (from k : ℕ) : Type 0 where
  pub after : from ≤ k
  pub place : Point
  pub here : slice_get places k ≡ Some place
  pub inside : IsInInterval interval place
  pub none : HasNoneIn interval places from k
