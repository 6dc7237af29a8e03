-- Nearness to some tile of a trapezoid, strip by strip.
--
-- A legal trapezoid is convex, and each of its sides lies along strips of one kind. So a tile is near to some tile of
-- it exactly where each of its four strip numbers is near to some number between the least and the greatest that the
-- trapezoid's tiles have in that strip: what grows are four ranges.
use Rattle.std.specs.Prelude.{ℤ, pos, ◌+ℤ◌, ◌≤ℤ◌, ◌↔◌, ◌≡◌, true}
use Rattle.half_grid.specs.Halves.{half, is_even}
use Rattle.half_grid.specs.Nearness.{DifferAtMost, IsGrown}
use Rattle.half_grid.specs.Tiles.{strips_of}
use Rattle.half_grid.specs.Trapezoids.{Trapezoid, IsInTrapezoid, IsLegal}
use Rattle.half_grid.specs.declared.plane.Tile.{Tile}

-- the numbers of a tile's four strips
abbrev pub column_of : Tile → ℤ
column_of t = t.i

abbrev pub row_of : Tile → ℤ
row_of t = t.j

abbrev pub sum_of : Tile → ℤ
sum_of t = (strips_of t).p

abbrev pub difference_of : Tile → ℤ
difference_of t = (strips_of t).q

-- the number is between the least and the greatest that tiles of the trapezoid have in the strip
pub record IsInRange (strip : Tile → ℤ) (z : Trapezoid) (number : ℤ) : Type 0 where
  pub low : Tile
  pub high : Tile
  pub low_in : IsInTrapezoid z low
  pub high_in : IsInTrapezoid z high
  pub from : strip low ≤ℤ number
  pub to : number ≤ℤ strip high

-- the tile's number in the strip differs by at most d from some such number
abbrev pub IsNearRange : (Tile → ℤ) → ℤ → Trapezoid → Tile → Type 0
IsNearRange strip d z t = (number : ℤ) × IsInRange strip z number × DifferAtMost d (strip t) number

pub record IsNearInEachStrip (dx dy : ℤ) (z : Trapezoid) (t : Tile) : Type 0 where
  pub columns : IsNearRange column_of dx z t
  pub rows : IsNearRange row_of dy z t
  pub sums : IsNearRange sum_of (half (dx +ℤ dy)) z t
  pub differences : IsNearRange difference_of (half (dx +ℤ dy)) z t

-- half sides of a rectangle by which a set grows: not negative, with an even sum
pub record IsRectangle (dx dy : ℤ) : Type 0 where
  pub columns : pos 0 ≤ℤ dx
  pub rows : pos 0 ≤ℤ dy
  pub even : is_even (dx +ℤ dy) ≡ true

-- A tile is near to some tile of a legal trapezoid exactly where it is near in each strip.
abbrev pub NearByStrips : Type 0
NearByStrips = (dx dy : ℤ) (z : Trapezoid) (t : Tile) → IsRectangle dx dy → IsLegal z
    → IsGrown dx dy (IsInTrapezoid z) t ↔ IsNearInEachStrip dx dy z t
