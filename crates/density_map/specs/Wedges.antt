-- How many tiles lie right of an upright line and left of another line, and the rows in which they are counted.
use Rattle.std.specs.Prelude.{ℕ, zero, suc, ℤ, pos, ◌+◌, ◌+ℤ◌, ◌-ℤ◌, ◌≤ℤ◌, ◌<ℤ◌, count_by}
use Rattle.half_grid.specs.Trapezoids.{Trapezoid, trapezoid_has}
use Rattle.half_grid.specs.declared.extent.Frame.{Frame}
use Rattle.half_grid.specs.Halves.{twice}
use Rattle.half_grid.specs.Lines.{x_on}
use Rattle.half_grid.specs.Reach.{IsWithinReach}
use Rattle.half_grid.specs.Rows.{place}
use Rattle.half_grid.specs.Windows.{RowRange}
use Rattle.half_grid.specs.declared.plane.Line.{Line}
use Rattle.density_map.specs.Frames.{natural, rows_tiles}

-- the line is within reach at both ends of the rows
pub record IsLineWithin (line : Line) (rows : RowRange) : Type 0 where
  pub low : IsWithinReach rows.y0
  pub high : IsWithinReach rows.y1
  pub bottom : IsWithinReach (x_on line rows.y0)
  pub top : IsWithinReach (x_on line rows.y1)

-- so many tiles of the row j have a number from 2x up to below the line's place
abbrev pub row_before : Line → ℤ → ℤ → ℕ
row_before line x j = natural (place line j -ℤ twice x)

-- the same of n rows from the row j on
abbrev pub tiles_before : Line → ℤ → ℤ → ℕ → ℕ
tiles_before line x j zero = 0
tiles_before line x j (suc n) = row_before line x j + tiles_before line x (j +ℤ pos 1) n

-- rows of the trapezoid, where the frame has columns
pub record AreRowsOf (z : Trapezoid) (frame : Frame) (rows : RowRange) : Type 0 where
  pub wide : frame.x0 <ℤ frame.x1
  pub low : z.y0 ≤ℤ rows.y0
  pub some : rows.y0 <ℤ rows.y1
  pub high : rows.y1 ≤ℤ z.y1

-- how many tiles the trapezoid has in these rows of the frame's columns
unfoldable pub count_in_rows : Frame → RowRange → Trapezoid → ℕ
count_in_rows frame rows z =
    count_by (λ t. trapezoid_has t z) (rows_tiles frame.x0 (natural (frame.x1 -ℤ frame.x0)) rows.y0 (natural (rows.y1 -ℤ rows.y0)))
