-- An event as two numbers: its Y, and its X with the number of its kind. They give the line back, since a line of a known kind
-- is named by one of its points.
use Rattle.std.specs.Prelude.{ℕ, ℤ, pos, ◌+◌, ◌/◌, ◌%◌, ◌^◌, ◌*◌, ◌+ℤ◌, ◌-ℤ◌, ◌≡◌, Bool, true, false, if◌then◌else◌, ◌==◌, nat_lt, ◌≤◌}
use Rattle.half_grid.specs.Halves.{half, twice}
use Rattle.half_grid.specs.Lines.{x_on}
use Rattle.half_grid.specs.Reach.{IsWithinReach}
use Rattle.half_grid.specs.declared.border.Operand.{Operand}
use Rattle.half_grid.specs.declared.border.Operand.TheVariants.{A, B}
use Rattle.half_grid.specs.declared.plane.Line.{Line}
use Rattle.half_grid.specs.declared.plane.Line.TheVariants.{Upright, Rising, Falling}
use Rattle.row_lists.specs.declared.event.Event.{Event}
use Rattle.edge_events.specs.declared.number.EventNumber.{EventNumber}

-- where the line stands among those through one point, in the row above it: a falling one first, a rising one last
abbrev pub rank_of : Line → ℕ
rank_of (Falling c) = 0
rank_of (Upright c) = 1
rank_of (Rising c) = 2

-- the number of an operand, and of a change of the weight
abbrev pub operand_kind : Operand → ℕ
operand_kind A = 0
operand_kind B = 2

abbrev pub way_kind : Bool → ℕ
way_kind true = 0
way_kind false = 1

abbrev pub kind_of : Event → ℕ
kind_of e = rank_of e.line * 4 + operand_kind e.operand + way_kind e.up

-- the line of the kind through the point
abbrev pub line_at : ℕ → ℤ → ℤ → Line
line_at kind x y = if nat_lt kind 4 then Falling (half (x +ℤ y)) else if nat_lt kind 8 then Upright x else Rising (half (x -ℤ y))

abbrev pub operand_at : ℕ → Operand
operand_at kind = if kind / 2 % 2 == 1 then B else A

abbrev pub event_at : ℕ → ℤ → ℤ → Event
event_at kind x y = record { y = y; x = x; line = line_at kind x y; up = kind % 2 == 0; operand = operand_at kind }

-- the X of a place: a sixteenth of it, moved down
abbrev pub x_of : ℕ → ℤ
x_of place = pos (place / 16) -ℤ pos (2 ^ 44)

-- the event of the two numbers
abbrev pub event_of : EventNumber → Event
event_of n = event_at (n.place % 16) (x_of n.place) n.y

-- the event is on its line, within reach
pub record IsPlaced (e : Event) : Type 0 where
  pub on_line : e.x ≡ x_on e.line e.y
  pub within : IsWithinReach e.x

-- four times its X, and the rank of its line: by these keys the lines of one Y's events stand as in the row above it
abbrev pub key_of : Event → ℤ
key_of e = twice (twice e.x) +ℤ pos (rank_of e.line)

-- the kind is one of the twelve that there are
abbrev pub IsNumber : EventNumber → Type 0
IsNumber n = n.place % 16 ≤ 11
