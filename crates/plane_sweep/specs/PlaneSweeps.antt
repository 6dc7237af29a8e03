-- What a plane sweep is seen as, and what it has given.
--
-- Above a stop the sweep's lines are the row list of each row up to the next one. What ended at a stop or below was given, or
-- waits to be given; the others are open at the lines. Edges count by their parts in the window.
use Rattle.std.specs.Prelude.{ℕ, ℤ, pos, ◌+◌, ◌*◌, ◌^◌, ◌≤◌, ◌-ℤ◌, ◌≡◌, Bool, List, [], ◌++◌, length}
use Rattle.half_grid.specs.Edges.{EdgeParts}
use Rattle.half_grid.specs.Trapezoids.{Trapezoid}
use Rattle.half_grid.specs.Windows.{RowRange, IsWindow}
use Rattle.scan_line.specs.ClippedEdges.{parts_in}
use Rattle.trap_join.specs.Joins.{rows_up}
use Rattle.active_lines.specs.ActiveLists.{items}
use Rattle.active_lines.specs.declared.item.ActiveLine.{ActiveLine}
use Rattle.row_lists.specs.declared.event.Event.{Event}
use Rattle.plane_sweep.specs.Sources.{AreEventsOf}
use Rattle.plane_sweep.specs.Sweeps.{IsSweptAbove}
use Rattle.plane_sweep.specs.declared.progress.Progress.{Progress}

pub record SweepState (F : Type 0) : Type 0 where
  pub rule : F
  pub window : RowRange
  -- each stop still to come is at this Y or above it
  pub from : ℤ
  pub lines : List ActiveLine
  pub left : List Event
  pub waiting : List Trapezoid
  pub failed : Bool

-- a number that falls with each stop and with each trapezoid that is given
unfoldable pub still_to_come : ℤ → ℤ → ℕ → ℕ
still_to_come end y waiting = rows_up (end -ℤ y) * 2 ^ 64 + waiting

module _ {F : Type 0} where
  -- of these edges the sweep has given these trapezoids, and gives the others of its rule's joined list
  abbrev pub HasGiven : (ℤ → ℤ → Bool → Type 0) → List EdgeParts → SweepState F → List Trapezoid → Type 0
  HasGiven post edges state given =
      IsSweptAbove post (parts_in state.window edges) state.window (state.from -ℤ pos 1) state.lines state.left (given ++ state.waiting)

  -- a number that falls with each trapezoid that a sweep gives, so a loop over a sweep has it as its measure
  abbrev pub left_to_give : SweepState F → ℕ
  left_to_give state = still_to_come state.window.y1 (state.from -ℤ pos 1) (length state.waiting)

-- below the window there are no lines, and all events are still to come
pub record IsBelowAll {E : Type 0} (left : E → List Event) (edges : List EdgeParts) (window : RowRange) (p : Progress E) : Type 0 where
  pub events : AreEventsOf edges (left p.events)
  pub rows : IsWindow window
  pub lines : items p.front.lines ≡ []
  pub waiting : p.front.waiting.items ≡ []
  pub from : p.from.y ≡ window.y0

-- what a sweep has given, by how far it has come, and by what a source still has
abbrev pub HasComeTo : {E : Type 0} → (E → List Event) → (ℤ → ℤ → Bool → Type 0) → List EdgeParts → Progress E → List Trapezoid → Type 0
HasComeTo left post edges p given =
    IsSweptAbove post (parts_in p.window edges) p.window (p.from.y -ℤ pos 1) (items p.front.lines) (left p.events) (given ++ p.front.waiting.items)

abbrev pub left_in : {E : Type 0} → Progress E → ℕ
left_in p = still_to_come p.window.y1 (p.from.y -ℤ pos 1) (length p.front.waiting.items)
