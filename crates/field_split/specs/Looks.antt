-- Which shots can be split, and which stripes they meet.
use Rattle.std.specs.Prelude.{ℕ, ℤ, pos, ◌+ℤ◌, ◌*ℤ◌, ◌≤ℤ◌, ◌<ℤ◌, ◌≡◌, ◌<◌, List, Some, slice_get}
use Rattle.std.specs.List.{All, Contains}
use Rattle.half_grid.specs.Trapezoids.{Trapezoid, FitsLimits, IsShot}
use Rattle.field_split.specs.Fields.{IsInStretch}

-- the reach of a field: a shot that is higher, or whose box is wider, isn't split
abbrev pub IsWithinFieldReach : Trapezoid → Type 0
IsWithinFieldReach z = FitsLimits (pos 16777216) (pos 33554432) z

-- a shot that can be split
pub record IsFieldShot (z : Trapezoid) : Type 0 where
  pub shot : IsShot z
  pub reach : IsWithinFieldReach z

-- shot k is the first that is past the reach
pub record IsFirstTooWide (shots : List Trapezoid) (k : ℕ) : Type 0 where
  pub shot : Trapezoid
  pub at : slice_get shots k ≡ Some shot
  pub too_wide : IsWithinFieldReach shot → ⊥
  pub earlier : (j : ℕ) (earlier : Trapezoid) → j < k → slice_get shots j ≡ Some earlier → IsWithinFieldReach earlier

-- a row of the shot is one of stripe k
pub record MeetsStripe (size k : ℤ) (z : Trapezoid) : Type 0 where
  pub row : ℤ
  pub above_bottom : z.y0 ≤ℤ row
  pub below_top : row <ℤ z.y1
  pub stripe : IsInStretch size k row

-- all rows of the shot are ones of the stripes from `first` to `last`
pub record IsWithinStripes (size first last : ℤ) (z : Trapezoid) : Type 0 where
  pub low : (first *ℤ size) ≤ℤ z.y0
  pub high : z.y1 ≤ℤ ((last +ℤ pos 1) *ℤ size)

-- the least and the greatest stripe that a shot meets
pub record AreStripesOf (size : ℤ) (shots : List Trapezoid) (first last : ℤ) : Type 0 where
  pub least : (z : Trapezoid) × Contains shots z × MeetsStripe size first z
  pub greatest : (z : Trapezoid) × Contains shots z × MeetsStripe size last z
  pub within : All (IsWithinStripes size first last) shots
