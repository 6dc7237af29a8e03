-- Where a line meets the next one above the row in which they are neighbours.
--
-- Of two lines that are side by side in a row, from left to right, the left one meets the right one in a higher row or
-- at its bottom exactly where it leans more to the right. Rising lines lean to the right, falling ones to the left.
use Rattle.std.specs.Prelude.{ℕ, ℤ, ◌<◌}
use Rattle.half_grid.specs.Lines.{first_strip}
use Rattle.half_grid.specs.Meetings.{MeetAt}
use Rattle.half_grid.specs.Reach.{IsWithinReach}
use Rattle.half_grid.specs.declared.plane.Line.{Line}
use Rattle.half_grid.specs.declared.plane.Line.TheVariants.{Upright, Rising, Falling}

-- how far a line leans to the right
abbrev pub lean_of : Line → ℕ
lean_of (Falling c) = 0
lean_of (Upright c) = 1
lean_of (Rising c) = 2

-- the first line, which is left of the second, meets it at this Y above
pub record MeetAbove (l m : Line) (y : ℤ) : Type 0 where
  pub closing : lean_of m < lean_of l
  pub here : MeetAt l m y

-- the line's own number is within reach
abbrev pub IsNearLine : Line → Type 0
IsNearLine line = IsWithinReach (first_strip line)
