-- The row list of a row: the lines whose weight isn't 0 for both operands, from left to right, each with the windings of
-- the tiles right of it, up to the next line.
--
-- Coincident edges are one line of it, and edges that cancel are none. So a row has one row list, whatever the order of
-- the edges, and it stays the same from row to row until an edge begins or ends, or two neighbours meet.
use Rattle.std.specs.Prelude.{ℤ, pos, ◌-ℤ◌, ◌≤ℤ◌, ◌<ℤ◌, ◌≡◌, ◌≢◌, List, [], ◌∷◌, All, if◌then◌else◌, int_le}
use Rattle.std.specs.Ordering.{int_eq}
use Rattle.half_grid.specs.Edges.{EdgeParts}
use Rattle.half_grid.specs.Rows.{place}
use Rattle.half_grid.specs.declared.border.Operand.{Operand}
use Rattle.half_grid.specs.declared.border.Operand.TheVariants.{A, B}
use Rattle.active_lines.specs.declared.item.ActiveLine.{ActiveLine}
use Rattle.active_lines.specs.declared.item.Windings.{Windings}
use Rattle.active_lines.specs.Neighbours.{SomeMeeting}
use Rattle.row_lists.specs.Weights.{weight}

abbrev pub no_windings : Windings
no_windings = record { a = pos 0; b = pos 0 }

abbrev pub winding_of : Operand → Windings → ℤ
winding_of A w = w.a
winding_of B w = w.b

-- in the row each line stands left of all that follow
abbrev pub AscendIn : ℤ → List ActiveLine → Type 0
AscendIn j [] = Unit {0}
AscendIn j (l ∷ lines) = All (λ m. place l.line j <ℤ place m.line j) lines × AscendIn j lines

-- the windings, which are these left of all lines, change at each line
abbrev pub ChangeAtEach : Windings → List ActiveLine → Type 0
ChangeAtEach w [] = Unit {0}
ChangeAtEach w (l ∷ lines) = (l.windings ≢ w) × ChangeAtEach l.windings lines

-- by how much an operand's winding changes at the place n of the row: at the line that stands there, or else by 0
abbrev pub change_at : Operand → ℤ → ℤ → Windings → List ActiveLine → ℤ
change_at o j n w [] = pos 0
change_at o j n w (l ∷ lines) =
    if int_eq (place l.line j) n then winding_of o l.windings -ℤ winding_of o w
    else change_at o j n l.windings lines

-- the windings of the tile with this number in the row: those right of the last line of which it is right
abbrev pub windings_at : ℤ → ℤ → Windings → List ActiveLine → Windings
windings_at j n w [] = w
windings_at j n w (l ∷ lines) = if int_le (place l.line j) n then windings_at j n l.windings lines else w

pub record IsRowList (edges : List EdgeParts) (j : ℤ) (lines : List ActiveLine) : Type 0 where
  pub ascend : AscendIn j lines
  pub change : ChangeAtEach no_windings lines
  pub weights : (o : Operand) (n : ℤ) → change_at o j n no_windings lines ≡ weight o edges j n

-- no line of the list meets the next one above the bottom of the row j and not above that of the row k
abbrev pub NoMeetings : List ActiveLine → ℤ → ℤ → Type 0
NoMeetings lines j k = (y : ℤ) → j <ℤ y → y ≤ℤ k → SomeMeeting lines y → ⊥

-- the same lines with the same windings, whatever trapezoids are open at them
abbrev pub AreAlike : List ActiveLine → List ActiveLine → Type 0
AreAlike [] [] = Unit {0}
AreAlike [] (m ∷ ms) = ⊥
AreAlike (l ∷ ls) [] = ⊥
AreAlike (l ∷ ls) (m ∷ ms) = (l.line ≡ m.line) × (l.windings ≡ m.windings) × AreAlike ls ms
