-- An event in two numbers: its Y, and its X with the number of its kind. They give the line back, since a line of a known kind
-- is named by one of its points.
use Rattle.std.specs.Prelude.{ℕ, ℤ, pos, ◌+◌, ◌/◌, ◌%◌, ◌^◌, ◌+ℤ◌, ◌-ℤ◌, ◌≡◌, Bool, true, false, if◌then◌else◌, ◌==◌, nat_lt}
use Rattle.half_grid.specs.Halves.{half}
use Rattle.half_grid.specs.Lines.{x_on}
use Rattle.half_grid.specs.Reach.{IsWithinReach}
use Rattle.half_grid.specs.declared.border.Operand.{Operand}
use Rattle.half_grid.specs.declared.border.Operand.TheVariants.{A, B}
use Rattle.half_grid.specs.declared.plane.Line.{Line}
use Rattle.half_grid.specs.declared.plane.Line.TheVariants.{Upright, Rising, Falling}
use Rattle.row_lists.specs.declared.event.Event.{Event}

-- the numbers of a line's kind, of an operand, and of a way
abbrev pub line_kind : Line → ℕ
line_kind (Upright c) = 0
line_kind (Rising c) = 4
line_kind (Falling c) = 8

abbrev pub operand_kind : Operand → ℕ
operand_kind A = 0
operand_kind B = 2

abbrev pub way_kind : Bool → ℕ
way_kind true = 1
way_kind false = 0

abbrev pub kind_of : Event → ℕ
kind_of e = line_kind e.line + operand_kind e.operand + way_kind e.up

-- the line of the kind through the point
abbrev pub line_at : ℕ → ℤ → ℤ → Line
line_at kind x y = if nat_lt kind 4 then Upright x else if nat_lt kind 8 then Rising (half (x -ℤ y)) else Falling (half (x +ℤ y))

abbrev pub operand_at : ℕ → Operand
operand_at kind = if kind / 2 % 2 == 1 then B else A

abbrev pub event_at : ℕ → ℤ → ℤ → Event
event_at kind x y = record { y = y; x = x; line = line_at kind x y; up = kind % 2 == 1; operand = operand_at kind }

-- the X of a place: a sixteenth of it, moved down
abbrev pub x_of : ℕ → ℤ
x_of place = pos (place / 16) -ℤ pos (2 ^ 44)

-- the event of a Y and a place
abbrev pub unpacked : ℤ → ℕ → Event
unpacked y place = event_at (place % 16) (x_of place) y

-- the event is on its line, within reach
pub record IsPlaced (e : Event) : Type 0 where
  pub on_line : e.x ≡ x_on e.line e.y
  pub within : IsWithinReach e.x
