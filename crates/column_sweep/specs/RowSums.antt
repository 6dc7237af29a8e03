-- What an operand's edges on some of the lines add up to in a row: those that go up less those that go down.
use Rattle.std.specs.Prelude.{ℤ, pos, ◌-ℤ◌, ◌≡◌, Bool, true, ◌&&◌, not, List, count_by}
use Rattle.half_grid.specs.Edges.{EdgeParts, spans, is_of}
use Rattle.half_grid.specs.declared.plane.Line.{Line}
use Rattle.half_grid.specs.declared.border.Operand.{Operand}

-- an edge of the operand that goes up in the row, on one of the lines
abbrev pub up_among : Operand → ℤ → (Line → Bool) → EdgeParts → Bool
up_among o j some e = is_of o e.operand && (e.up && (spans e j && some e.line))

abbrev pub down_among : Operand → ℤ → (Line → Bool) → EdgeParts → Bool
down_among o j some e = is_of o e.operand && (not e.up && (spans e j && some e.line))

unfoldable pub sum_among : Operand → ℤ → (Line → Bool) → List EdgeParts → ℤ
sum_among o j some edges = pos (count_by (up_among o j some) edges) -ℤ pos (count_by (down_among o j some) edges)

abbrev pub any_line : Line → Bool
any_line line = true

-- on all lines
abbrev pub row_sum : Operand → ℤ → List EdgeParts → ℤ
row_sum o j edges = sum_among o j any_line edges

-- two lists add up to the same in each row, on whatever lines
abbrev pub AddUpAlike : List EdgeParts → List EdgeParts → Type 0
AddUpAlike edges others = (o : Operand) (j : ℤ) (some : Line → Bool) → sum_among o j some edges ≡ sum_among o j some others
