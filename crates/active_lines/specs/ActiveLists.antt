-- A list of active lines with a place in it: the lines before the place and those after it, from left to right.
use Rattle.std.specs.Prelude.{◌≡◌, ◌++◌, List, [], ◌∷◌, Option, Some, None, All}
use Rattle.half_grid.specs.declared.plane.Line.{Line}
use Rattle.active_lines.specs.declared.item.ActiveLine.{ActiveLine}
use Rattle.active_lines.specs.declared.item.Opened.{Opened}

pub record ActiveList : Type 0 where
  pub before : List ActiveLine
  pub after : List ActiveLine

abbrev pub active_list : List ActiveLine → List ActiveLine → ActiveList
active_list before after = record { before = before; after = after }

-- all of its lines
abbrev pub items : ActiveList → List ActiveLine
items list = list.before ++ list.after

abbrev pub first_of : List ActiveLine → Option ActiveLine
first_of [] = None
first_of (l ∷ lines) = Some l

abbrev pub last_of : List ActiveLine → Option ActiveLine
last_of [] = None
last_of (l ∷ []) = Some l
last_of (l ∷ m ∷ lines) = last_of (m ∷ lines)

-- the first of the lines is on this line
abbrev pub BeginsOn : Line → List ActiveLine → Type 0
BeginsOn line [] = ⊥
BeginsOn line (l ∷ lines) = l.line ≡ line

-- no trapezoid is open at the line
abbrev pub IsShut : ActiveLine → Type 0
IsShut l = l.opened ≡ None

-- the line with another open trapezoid
abbrev pub reopened : Opened → ActiveLine → ActiveLine
reopened o l = record { line = l.line; windings = l.windings; opened = Some o }

-- `l` is the last line of the list at which a trapezoid is open, and the new list has another one there
pub record IsReopened (o : Opened) (lines : List ActiveLine) (l : ActiveLine) (new : List ActiveLine) : Type 0 where
  pub left : List ActiveLine
  pub right : List ActiveLine
  pub split : lines ≡ left ++ (l ∷ right)
  pub was_open : IsShut l → ⊥
  pub last : All IsShut right
  pub new_is : new ≡ left ++ (reopened o l ∷ right)
