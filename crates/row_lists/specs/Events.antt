-- The events of edges: where the weights of lines change, from row to row.
--
-- An edge changes the weight of its line by its sign at its lower end, and back at its upper one. So the weight of a line
-- in a row is that in the row below, and what the events at the row's bottom add.
use Rattle.std.specs.Prelude.{ℤ, pos, ◌+ℤ◌, ◌-ℤ◌, ◌≤ℤ◌, ◌<ℤ◌, ◌≡◌, ◌⊎◌, Bool, ◌&&◌, not, List, [], ◌∷◌, All, count_by, IsPermutation}
use Rattle.std.specs.Ordering.{int_eq}
use Rattle.half_grid.specs.Edges.{EdgeParts, is_of}
use Rattle.half_grid.specs.Lines.{x_on}
use Rattle.half_grid.specs.Rows.{place}
use Rattle.half_grid.specs.declared.border.Operand.{Operand}
use Rattle.half_grid.specs.declared.plane.Line.{Line}
use Rattle.row_lists.specs.declared.event.Event.{Event}
use Rattle.row_lists.specs.declared.event.Spot.{Spot}
use Rattle.row_lists.specs.Weights.{weight}

abbrev pub begin_of : EdgeParts → Event
begin_of e = record { y = e.y0; x = x_on e.line e.y0; line = e.line; up = e.up; operand = e.operand }

abbrev pub end_of : EdgeParts → Event
end_of e = record { y = e.y1; x = x_on e.line e.y1; line = e.line; up = not e.up; operand = e.operand }

abbrev pub events_of : List EdgeParts → List Event
events_of [] = []
events_of (e ∷ edges) = begin_of e ∷ end_of e ∷ events_of edges

-- the event is on the line and at the Y
abbrev pub is_at : Line → ℤ → Event → Bool
is_at line y e = int_eq e.y y && int_eq (place e.line y) (place line y)

abbrev pub adds_at : Operand → Line → ℤ → Event → Bool
adds_at o line y e = is_of o e.operand && (e.up && is_at line y e)

abbrev pub takes_at : Operand → Line → ℤ → Event → Bool
takes_at o line y e = is_of o e.operand && (not e.up && is_at line y e)

-- what the events at the Y add to the weight of the line
unfoldable pub amount : Operand → List Event → Line → ℤ → ℤ
amount o events line y = pos (count_by (adds_at o line y) events) -ℤ pos (count_by (takes_at o line y) events)

abbrev pub spot_of : Event → Spot
spot_of e = record { y = e.y; x = e.x }

-- no event is below one before it, or left of one before it at the same Y
abbrev pub ComesBefore : Event → Event → Type 0
ComesBefore e f = (e.y <ℤ f.y) ⊎ ((e.y ≡ f.y) × (e.x ≤ℤ f.x))

abbrev pub EventsAscend : List Event → Type 0
EventsAscend [] = Unit {0}
EventsAscend (e ∷ events) = All (ComesBefore e) events × EventsAscend events

-- each edge spans a row
abbrev pub HaveRows : List EdgeParts → Type 0
HaveRows edges = All (λ e. e.y0 <ℤ e.y1) edges

-- The weight of a line changes from row to row by the events between them, in whatever order they are.
abbrev pub WeightsByEvents : Type 0
WeightsByEvents = (edges : List EdgeParts) (events : List Event) → HaveRows edges → IsPermutation (events_of edges) events
    → (o : Operand) (line : Line) (j : ℤ) → weight o edges j (place line j) ≡ weight o edges (j -ℤ pos 1) (place line (j -ℤ pos 1)) +ℤ amount o events line j
