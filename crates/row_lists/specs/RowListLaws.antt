-- What follows from the definition of row lists, as laws over all of them.
use Rattle.std.specs.Prelude.{ℤ, ◌≤ℤ◌, ◌≡◌, List, []}
use Rattle.half_grid.specs.Edges.{EdgeParts, edges_winding}
use Rattle.half_grid.specs.Rows.{number_in_row}
use Rattle.half_grid.specs.declared.plane.Tile.{Tile}
use Rattle.half_grid.specs.declared.border.Operand.{Operand}
use Rattle.active_lines.specs.declared.item.ActiveLine.{ActiveLine}
use Rattle.row_lists.specs.Weights.{NoEnds, NoneSpans}
use Rattle.row_lists.specs.RowLists.{IsRowList, NoMeetings, AreAlike, no_windings, winding_of, windings_at}

-- A row list gives the winding of each tile of its row.
abbrev pub GivesWindings : Type 0
GivesWindings = (edges : List EdgeParts) (j : ℤ) (lines : List ActiveLine) → IsRowList edges j lines
    → (o : Operand) (t : Tile) → t.j ≡ j → winding_of o (windings_at j (number_in_row t) no_windings lines) ≡ edges_winding o edges t

-- It is that of each row up to the next at whose bottom an edge begins or ends, or neighbours meet.
abbrev pub StaysUntilStop : Type 0
StaysUntilStop = (edges : List EdgeParts) (j k : ℤ) (lines : List ActiveLine) → IsRowList edges j lines
    → j ≤ℤ k → NoEnds edges j k → NoMeetings lines j k → IsRowList edges k lines

-- A row has no two row lists.
abbrev pub OneRowList : Type 0
OneRowList = (edges : List EdgeParts) (j : ℤ) (ls ms : List ActiveLine) → IsRowList edges j ls → IsRowList edges j ms → AreAlike ls ms

-- A row that no edge spans has the empty one.
abbrev pub NoneInEmptyRow : Type 0
NoneInEmptyRow = (edges : List EdgeParts) (j : ℤ) → NoneSpans edges j → IsRowList edges j []
