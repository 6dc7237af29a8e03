-- Trapezoids with horizontal parallel sides, and the shots among them.
--
-- The tiles of a trapezoid are those of the rows y0 <= j < y1 that are right of its left line and left of its
-- right line. It is legal where y0 < y1, neither parallel side is negative, and they aren't both 0. Its box width
-- is its greatest X less its least X.
use Rattle.std.specs.Prelude.{ℕ, ℤ, pos, ◌+ℤ◌, ◌-ℤ◌, ◌≤ℤ◌, ◌<ℤ◌, ◌≡◌, Bool, ◌&&◌, List, count_by, int_le, int_lt}
use Rattle.std.specs.Int.{int_min, int_max}
use Rattle.half_grid.specs.Reach.{IsWithinReach}
use Rattle.half_grid.specs.Lines.{IsRightOf, IsLeftOf, strip_along, first_strip, x_on}
use Rattle.half_grid.specs.declared.plane.Tile.{Tile}
use Rattle.half_grid.specs.declared.plane.Line.{Line}

-- rows from y0 up to below y1, between two lines
pub record Trapezoid : Type 0 where
  pub y0 : ℤ
  pub y1 : ℤ
  pub left : Line
  pub right : Line

abbrev pub trapezoid : ℤ → ℤ → Line → Line → Trapezoid
trapezoid y0 y1 left right = record { y0 = y0; y1 = y1; left = left; right = right }

pub record IsInTrapezoid (z : Trapezoid) (t : Tile) : Type 0 where
  pub above_bottom : z.y0 ≤ℤ t.j
  pub below_top : t.j <ℤ z.y1
  pub right_of_left : IsRightOf t z.left
  pub left_of_right : IsLeftOf t z.right

-- the lengths of the parallel sides
abbrev pub bottom_of : Trapezoid → ℤ
bottom_of z = x_on z.right z.y0 -ℤ x_on z.left z.y0

abbrev pub top_of : Trapezoid → ℤ
top_of z = x_on z.right z.y1 -ℤ x_on z.left z.y1

pub record IsLegal (z : Trapezoid) : Type 0 where
  pub has_rows : z.y0 <ℤ z.y1
  pub bottom : pos 0 ≤ℤ bottom_of z
  pub top : pos 0 ≤ℤ top_of z
  pub not_flat : pos 0 <ℤ (bottom_of z +ℤ top_of z)

-- each corner is within reach
pub record HasCornersWithinReach (z : Trapezoid) : Type 0 where
  pub y0 : IsWithinReach z.y0
  pub y1 : IsWithinReach z.y1
  pub bottom_left : IsWithinReach (x_on z.left z.y0)
  pub bottom_right : IsWithinReach (x_on z.right z.y0)
  pub top_left : IsWithinReach (x_on z.left z.y1)
  pub top_right : IsWithinReach (x_on z.right z.y1)

-- a legal trapezoid within reach
pub record IsShot (z : Trapezoid) : Type 0 where
  pub legal : IsLegal z
  pub reach : HasCornersWithinReach z

-- the greatest X less the least X
abbrev pub box_width : Trapezoid → ℤ
box_width z = int_max (x_on z.right z.y0) (x_on z.right z.y1) -ℤ int_min (x_on z.left z.y0) (x_on z.left z.y1)

-- the limits of a shot
pub record FitsLimits (height width : ℤ) (z : Trapezoid) : Type 0 where
  pub not_too_high : (z.y1 -ℤ z.y0) ≤ℤ height
  pub not_too_wide : box_width z ≤ℤ width

-- whether the trapezoid has the tile
abbrev pub trapezoid_has : Tile → Trapezoid → Bool
trapezoid_has t z = (int_le z.y0 t.j && int_lt t.j z.y1)
    && (int_le (first_strip z.left) (strip_along z.left t) && int_lt (strip_along z.right t) (first_strip z.right))

-- how many trapezoids of a list have the tile
abbrev pub count_in : List Trapezoid → Tile → ℕ
count_in traps t = count_by (trapezoid_has t) traps

-- each tile whatsoever is in exactly one trapezoid where it is in the area, and in none otherwise
pub record CoversExactly (traps : List Trapezoid) (area : Tile → Type 0) : Type 0 where
  pub once : (t : Tile) → area t → count_in traps t ≡ 1
  pub never : (t : Tile) → (area t → ⊥) → count_in traps t ≡ 0
