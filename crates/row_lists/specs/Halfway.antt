-- A list on its way from the row below a stop to the row above it.
--
-- A stop is gone over from left to right. Left of a point of it the list has the lines of the row above, and from there on
-- those of the row below, each with the windings right of it in its own row. At the point itself, and at it alone, lines
-- may go, come, change their weights or change places.
use Rattle.std.specs.Prelude.{ℤ, pos, ◌+ℤ◌, ◌-ℤ◌, ◌≤ℤ◌, ◌<ℤ◌, ◌≡◌, List, [], ◌++◌, All}
use Rattle.half_grid.specs.Edges.{EdgeParts}
use Rattle.half_grid.specs.Lines.{x_on}
use Rattle.half_grid.specs.Rows.{place}
use Rattle.half_grid.specs.declared.border.Operand.{Operand}
use Rattle.half_grid.specs.declared.plane.Line.{Line}
use Rattle.active_lines.specs.declared.item.ActiveLine.{ActiveLine}
use Rattle.active_lines.specs.declared.item.Windings.{Windings}
use Rattle.row_lists.specs.Weights.{weight}
use Rattle.row_lists.specs.RowLists.{IsRowList, AscendIn, ChangeAtEach, NoMeetings, no_windings, change_at}
use Rattle.row_lists.specs.RowRuns.{last_windings}

abbrev pub PassLeft : ℤ → ℤ → List ActiveLine → Type 0
PassLeft y x lines = All (λ l. x_on l.line y <ℤ x) lines

abbrev pub PassAtOrRight : ℤ → ℤ → List ActiveLine → Type 0
PassAtOrRight y x lines = All (λ l. x ≤ℤ x_on l.line y) lines

abbrev pub PassAt : ℤ → ℤ → List ActiveLine → Type 0
PassAt y x lines = All (λ l. x_on l.line y ≡ x) lines

-- the lines before the point (x, y) and those after it; there the row below has the windings `below`, and the row above `above`
pub record IsHalfway (edges : List EdgeParts) (y x : ℤ) (below above : Windings) (before after : List ActiveLine) : Type 0 where
  pub ascend_before : AscendIn y before
  pub ascend_after : AscendIn (y -ℤ pos 1) after
  pub change_before : ChangeAtEach no_windings before
  pub change_after : ChangeAtEach below after
  pub left : PassLeft y x before
  pub right : PassAtOrRight y x after
  pub last : last_windings no_windings before ≡ above
  pub weights_before : (o : Operand) (line : Line) → x_on line y <ℤ x → change_at o y (place line y) no_windings before ≡ weight o edges y (place line y)
  pub weights_after : (o : Operand) (line : Line) → x ≤ℤ x_on line y
      → change_at o (y -ℤ pos 1) (place line (y -ℤ pos 1)) below after ≡ weight o edges (y -ℤ pos 1) (place line (y -ℤ pos 1))

-- lines that pass the stop in this stretch have the same weight below and above it
abbrev pub KeepWeights : List EdgeParts → ℤ → ℤ → ℤ → Type 0
KeepWeights edges y from to =
    (o : Operand) (line : Line) → from ≤ℤ x_on line y → x_on line y <ℤ to
    → weight o edges (y -ℤ pos 1) (place line (y -ℤ pos 1)) ≡ weight o edges y (place line y)

-- the lines through the point in the row above it: they are those that have a weight there
pub record AreThrough (edges : List EdgeParts) (y x : ℤ) (above : Windings) (lines : List ActiveLine) : Type 0 where
  pub ascend : AscendIn y lines
  pub change : ChangeAtEach above lines
  pub at : PassAt y x lines
  pub weights : (o : Operand) (line : Line) → x_on line y ≡ x → change_at o y (place line y) above lines ≡ weight o edges y (place line y)

-- The row list of the row below a stop is halfway to the left of all of the stop.
abbrev pub BeginsHalfway : Type 0
BeginsHalfway = (edges : List EdgeParts) (y : ℤ) (lines : List ActiveLine) → IsRowList edges (y -ℤ pos 1) lines
    → (x : ℤ) × IsHalfway edges y x no_windings no_windings [] lines

-- Over lines that keep their weights, and of which no two meet, it goes on as it is, where the windings are the same below and above.
abbrev pub GoesOnHalfway : Type 0
GoesOnHalfway = (edges : List EdgeParts) (y from to : ℤ) (w : Windings) (before lines after : List ActiveLine)
    → IsHalfway edges y from w w before (lines ++ after)
    → from ≤ℤ to → PassLeft y to lines → PassAtOrRight y to after → KeepWeights edges y from to → NoMeetings lines (y -ℤ pos 1) y
    → IsHalfway edges y to (last_windings w lines) (last_windings w lines) (before ++ lines) after

-- At a point the lines of the row below give way to those of the row above.
abbrev pub PassesPoint : Type 0
PassesPoint = (edges : List EdgeParts) (y x : ℤ) (below above : Windings) (before old new after : List ActiveLine)
    → IsHalfway edges y x below above before (old ++ after)
    → PassAt y x old → PassAtOrRight y (x +ℤ pos 1) after → AreThrough edges y x above new
    → IsHalfway edges y (x +ℤ pos 1) (last_windings below old) (last_windings above new) (before ++ new) after

-- Where no line is left, and none further right changes its weight, it is the row list of the row above.
abbrev pub EndsHalfway : Type 0
EndsHalfway = (edges : List EdgeParts) (y x : ℤ) (w : Windings) (lines : List ActiveLine) → IsHalfway edges y x w w lines []
    → ((to : ℤ) → KeepWeights edges y x to) → IsRowList edges y lines
