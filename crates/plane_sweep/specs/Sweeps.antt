-- A sweep after a stop: the list of its lines is that of each row up to the next stop, and what was given is what ended.
use Rattle.std.specs.Prelude.{ℤ, pos, ◌^◌, ◌≤◌, ◌-ℤ◌, ◌≤ℤ◌, ◌<ℤ◌, ◌≡◌, Bool, false, List, [], map, length, All}
use Rattle.half_grid.specs.Edges.{EdgeParts, IsEdge}
use Rattle.half_grid.specs.Trapezoids.{Trapezoid}
use Rattle.half_grid.specs.Windows.{RowRange}
use Rattle.scan_line.specs.Runs.{IsBalanced}
use Rattle.trap_join.specs.Fronts.{ended_at}
use Rattle.trap_join.specs.Joins.{IsJoinedSoFar}
use Rattle.active_lines.specs.declared.item.ActiveLine.{ActiveLine}
use Rattle.active_lines.specs.declared.item.Windings.{Windings}
use Rattle.row_lists.specs.declared.event.Event.{Event}
use Rattle.row_lists.specs.Weights.{NoEnds}
use Rattle.row_lists.specs.RowLists.{IsRowList, NoMeetings}
use Rattle.plane_sweep.specs.RuleTests.{IsTest}
use Rattle.plane_sweep.specs.Stops.{EventsLeft}
use Rattle.plane_sweep.specs.StopRuns.{growing_of, AreOpened}

-- up to each Y above it, as long as no stop is passed, this is joined
abbrev pub JoinsAbove : (ℤ → ℤ → Bool → Type 0) → List EdgeParts → RowRange → ℤ → List ActiveLine → List Trapezoid → Type 0
JoinsAbove post edges window y lines given =
    (top : ℤ) → y <ℤ top → top ≤ℤ window.y1 → NoEnds edges y (top -ℤ pos 1) → NoMeetings lines y (top -ℤ pos 1)
    → IsJoinedSoFar post edges window top given (map (ended_at top) (growing_of lines))

-- the sweep stands above the stop at y; `given` with what waits is what ended at it or below
pub record StandsAbove (post : ℤ → ℤ → Bool → Type 0) (takes : Windings → Bool) (edges : List EdgeParts) (window : RowRange) (y : ℤ)
    (lines : List ActiveLine) (left : List Event) (given : List Trapezoid) : Type 0 where
  pub are_edges : All IsEdge edges
  pub list : IsRowList edges y lines
  pub opened : AreOpened takes false lines
  pub events : EventsLeft edges y left
  pub joined : JoinsAbove post edges window y lines given

-- edges that span no row outside the window
abbrev pub AreInside : RowRange → List EdgeParts → Type 0
AreInside window edges = All (λ e. (window.y0 ≤ℤ e.y0) × (e.y1 ≤ℤ window.y1)) edges

-- The sweep of these edges is above the stop at y, or below the window, whatever test the rule is; what ended is `given`. At
-- the window's top all has ended.
pub record IsSweptAbove (post : ℤ → ℤ → Bool → Type 0) (edges : List EdgeParts) (window : RowRange) (y : ℤ)
    (lines : List ActiveLine) (left : List Event) (given : List Trapezoid) : Type 0 where
  pub inside : AreInside window edges
  pub short : length edges ≤ 2 ^ 64
  pub balanced : IsBalanced edges window
  pub low : (window.y0 -ℤ pos 1) ≤ℤ y
  pub high : y ≤ℤ window.y1
  pub stands : (takes : Windings → Bool) → IsTest post takes → StandsAbove post takes edges window y lines left given
  pub top : y ≡ window.y1 → IsJoinedSoFar post edges window y given []
