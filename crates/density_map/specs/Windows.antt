-- Windows, and how many tiles of an area one has.
--
-- The window (i, j) of a size has the columns from i times the size up to below i + 1 times the size, and the rows
-- from j times the size up to below j + 1 times the size. Its count is the number of the area's tiles in it: some list
-- of this length has each of these tiles once, and no other tile.
use Rattle.std.specs.Prelude.{ℕ, ℤ, pos, ◌≡◌, ◌+ℤ◌, ◌*ℤ◌, ◌≤ℤ◌, neg_ℤ, ◌^◌, List, sum_by}
use Rattle.half_grid.specs.Sizes.{IsNumberIn}
use Rattle.half_grid.specs.Trapezoids.{Trapezoid}
use Rattle.half_grid.specs.declared.extent.Frame.{Frame}
use Rattle.half_grid.specs.declared.plane.Tile.{Tile}
use Rattle.density_map.specs.Frames.{IsInFrame, count_in_frame}

-- the sizes that windows may have
pub record IsWindowSize (size : ℤ) : Type 0 where
  pub low : pos 64 ≤ℤ size
  pub high : size ≤ℤ pos 16777216

abbrev pub window : ℤ → ℤ → ℤ → Frame
window size i j = record { x0 = i *ℤ size; y0 = j *ℤ size; x1 = (i +ℤ pos 1) *ℤ size; y1 = (j +ℤ pos 1) *ℤ size }

-- the row of windows lies within reach
pub record IsRowWithinReach (size row : ℤ) : Type 0 where
  pub low : neg_ℤ (pos (2 ^ 44)) ≤ℤ (row *ℤ size)
  pub high : ((row +ℤ pos 1) *ℤ size) ≤ℤ pos (2 ^ 44)

-- the tile is one of the area in the window
pub record IsTakenInWindow (area : Tile → Type 0) (size i j : ℤ) (t : Tile) : Type 0 where
  pub inside : IsInFrame (window size i j) t
  pub taken : area t

-- the count of a window
abbrev pub IsWindowCount : (Tile → Type 0) → ℤ → ℤ → ℤ → ℕ → Type 0
IsWindowCount area size i j n = IsNumberIn (IsTakenInWindow area size i j) n

-- the tiles in the window of all trapezoids of a list together
abbrev pub window_sum : ℤ → ℤ → ℤ → List Trapezoid → ℕ
window_sum size i j traps = sum_by (count_in_frame (window size i j)) traps
