-- Which neighbours meet above: of two lines from left to right in a row, the left one meets the right one above the row's
-- bottom exactly where it leans more to the right.
use Rattle.std.specs.Prelude.{ℤ, ◌<◌, ◌<ℤ◌, ◌↔◌}
use Rattle.half_grid.specs.Meetings.{MeetAt}
use Rattle.half_grid.specs.Rows.{place}
use Rattle.half_grid.specs.declared.plane.Line.{Line}
use Rattle.active_lines.specs.Leaning.{lean_of}

abbrev pub MeetsWhereItLeans : Type 0
MeetsWhereItLeans = (l m : Line) (j y : ℤ) → place l j <ℤ place m j → MeetAt l m y → (j <ℤ y) ↔ (lean_of m < lean_of l)
