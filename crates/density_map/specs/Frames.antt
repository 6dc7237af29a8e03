-- The tiles of a frame, one by one, and how many of them a trapezoid has: a count over tiles, with no formula.
use Rattle.std.specs.Prelude.{ℕ, zero, suc, ℤ, pos, negsuc, ◌+ℤ◌, ◌-ℤ◌, ◌≤ℤ◌, ◌<ℤ◌, neg_ℤ, ◌^◌, List, [], ◌∷◌, ◌++◌, count_by}
use Rattle.half_grid.specs.Trapezoids.{Trapezoid, trapezoid_has}
use Rattle.half_grid.specs.declared.extent.Frame.{Frame}
use Rattle.half_grid.specs.declared.plane.Side.TheVariants.{Left, Right}
use Rattle.half_grid.specs.declared.plane.Tile.{Tile}

-- the tile is in the frame's columns and rows
pub record IsInFrame (frame : Frame) (t : Tile) : Type 0 where
  pub from_left : frame.x0 ≤ℤ t.i
  pub below_right : t.i <ℤ frame.x1
  pub above_bottom : frame.y0 ≤ℤ t.j
  pub below_top : t.j <ℤ frame.y1

-- at most twice the reach from 0
pub record IsNearSide (z : ℤ) : Type 0 where
  pub low : neg_ℤ (pos (2 ^ 45)) ≤ℤ z
  pub high : z ≤ℤ pos (2 ^ 45)

-- all four sides are
pub record IsNearFrame (frame : Frame) : Type 0 where
  pub x0 : IsNearSide frame.x0
  pub y0 : IsNearSide frame.y0
  pub x1 : IsNearSide frame.x1
  pub y1 : IsNearSide frame.y1

-- a number of columns or rows, which is none where it would be negative
abbrev pub natural : ℤ → ℕ
natural (pos n) = n
natural (negsuc n) = 0

-- the two tiles of each of k columns of the row j, from the column i on
abbrev pub row_tiles : ℤ → ℤ → ℕ → List Tile
row_tiles i j zero = []
row_tiles i j (suc k) = record { i = i; j = j; side = Left } ∷ record { i = i; j = j; side = Right } ∷ row_tiles (i +ℤ pos 1) j k

-- those of n rows, from the row j on
abbrev pub rows_tiles : ℤ → ℕ → ℤ → ℕ → List Tile
rows_tiles i k j zero = []
rows_tiles i k j (suc n) = row_tiles i j k ++ rows_tiles i k (j +ℤ pos 1) n

-- the tiles of a frame
unfoldable pub frame_tiles : Frame → List Tile
frame_tiles frame = rows_tiles frame.x0 (natural (frame.x1 -ℤ frame.x0)) frame.y0 (natural (frame.y1 -ℤ frame.y0))

-- how many of them the trapezoid has
unfoldable pub count_in_frame : Frame → Trapezoid → ℕ
count_in_frame frame z = count_by (λ t. trapezoid_has t z) (frame_tiles frame)
