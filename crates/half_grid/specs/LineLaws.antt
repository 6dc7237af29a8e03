-- The arithmetic of lines from row to row, and the tiles of a trapezoid by numbers, as laws over all of them.
use Rattle.std.specs.Prelude.{ℤ, ◌≤ℤ◌, ◌<ℤ◌, ◌≢◌, ◌↔◌}
use Rattle.half_grid.specs.Reach.{IsWithinReach}
use Rattle.half_grid.specs.Lines.{x_on, first_strip}
use Rattle.half_grid.specs.Rows.{number_in_row, place}
use Rattle.half_grid.specs.Meetings.{MeetBetween}
use Rattle.half_grid.specs.Trapezoids.{Trapezoid, IsInTrapezoid}
use Rattle.half_grid.specs.declared.plane.Tile.{Tile}
use Rattle.half_grid.specs.declared.plane.Line.{Line}

-- Two different lines have different places in each row.
abbrev pub PlacesDiffer : Type 0
PlacesDiffer = (l m : Line) (j : ℤ) → l ≢ m → place l j ≢ place m j

-- The order of two places changes from a row to a later one only where the lines meet between them.
abbrev pub OrderChanges : Type 0
OrderChanges = (l m : Line) (j k : ℤ) → j ≤ℤ k → place l j <ℤ place m j → place m k <ℤ place l k → MeetBetween l m j k

-- the tile is in the trapezoid's rows, and its number is from the left line's place up to below the right line's
pub record HasNumberBetween (z : Trapezoid) (t : Tile) : Type 0 where
  pub above_bottom : z.y0 ≤ℤ t.j
  pub below_top : t.j <ℤ z.y1
  pub from_left : place z.left t.j ≤ℤ number_in_row t
  pub below_right : number_in_row t <ℤ place z.right t.j

-- The tiles of a trapezoid in a row are those of an interval of numbers.
abbrev pub NumbersOfRow : Type 0
NumbersOfRow = (z : Trapezoid) (t : Tile) → IsInTrapezoid z t ↔ HasNumberBetween z t

-- A line that is within reach at some Y within reach has its own number within reach.
abbrev pub LineWithinReach : Type 0
LineWithinReach = (line : Line) (y : ℤ) → IsWithinReach y → IsWithinReach (x_on line y) → IsWithinReach (first_strip line)
