-- The lines of a sweep, from stop to stop.
use Rattle.std.specs.Prelude.{ℤ, pos, ◌-ℤ◌, ◌≤ℤ◌, ◌<ℤ◌, List}
use Rattle.half_grid.specs.Edges.{EdgeParts}
use Rattle.active_lines.specs.declared.item.ActiveLine.{ActiveLine}
use Rattle.row_lists.specs.declared.event.Event.{Event}
use Rattle.row_lists.specs.Weights.{NoEnds}
use Rattle.row_lists.specs.RowLists.{IsRowList, NoMeetings}
use Rattle.plane_sweep.specs.Stops.{IsAboveStop}

-- the lines of a sweep, and the events still to come
pub record RowSweepState : Type 0 where
  pub lines : List ActiveLine
  pub left : List Event

-- the sweep is above the stop at y: its lines are the row list of the row there
abbrev pub IsAbove : List EdgeParts → ℤ → RowSweepState → Type 0
IsAbove edges y state = IsAboveStop edges y state.lines state.left

-- the next stop is at this Y; up to there no edge began or ended and no neighbours met, and above it is the sweep now
pub record GoesUp (edges : List EdgeParts) (y : ℤ) (before after : RowSweepState) (next : ℤ) : Type 0 where
  pub up : y <ℤ next
  pub none : NoEnds edges y (next -ℤ pos 1)
  pub apart : NoMeetings before.lines y (next -ℤ pos 1)
  pub above : IsAbove edges next after

-- no stop is left: the lines are the row list of each row further up
abbrev pub StaysAbove : List EdgeParts → ℤ → RowSweepState → Type 0
StaysAbove edges y state = (k : ℤ) → y ≤ℤ k → IsRowList edges k state.lines
