-- The runs on the way over a stop, with the trapezoids that are open there.
--
-- `lines` is the list of the row below the stop, as it was before it, and `ended` what ended at the stop so far.
use Rattle.std.specs.Prelude.{ℤ, pos, ◌+ℤ◌, ◌≡◌, Bool, false, List, ◌++◌, Option, Some, All}
use Rattle.half_grid.specs.Edges.{EdgeParts}
use Rattle.half_grid.specs.Lines.{x_on}
use Rattle.half_grid.specs.Trapezoids.{Trapezoid, IsShot}
use Rattle.half_grid.specs.declared.plane.Point.{Point}
use Rattle.trap_join.specs.Fronts.{ended_at}
use Rattle.active_lines.specs.ActiveLists.{ActiveList}
use Rattle.active_lines.specs.declared.item.ActiveLine.{ActiveLine}
use Rattle.active_lines.specs.declared.item.Windings.{Windings}
use Rattle.row_lists.specs.declared.event.Event.{Event}
use Rattle.row_lists.specs.RowLists.{no_windings}
use Rattle.row_lists.specs.RowRuns.{last_windings}
use Rattle.plane_sweep.specs.declared.entry.Runs.{Runs}
use Rattle.plane_sweep.specs.declared.entry.Runs.TheVariants.{Alike}
use Rattle.plane_sweep.specs.declared.point.Front.{Front}
use Rattle.plane_sweep.specs.declared.point.Gap.{Gap}
use Rattle.plane_sweep.specs.StopRuns.{growing_of, AreOpened}
use Rattle.plane_sweep.specs.RuleTests.{IsTest}
use Rattle.plane_sweep.specs.Crossings.{IsCrossing, RunsAre}
use Rattle.plane_sweep.specs.Stops.{IsAt, IsAlone, IsUpTo, EventsFrom, MeetingsFrom, HasEnded, IsNextMeeting}

-- what the way stands on: the test takes nothing left and right of the row below, whose runs have their open trapezoids
pub record MayPass (takes : Windings → Bool) (y : ℤ) (lines : List ActiveLine) : Type 0 where
  pub nothing : takes no_windings ≡ false
  pub shut : takes (last_windings no_windings lines) ≡ false
  pub opened : AreOpened takes false lines
  pub shots : All (λ g. IsShot (ended_at y g)) (growing_of lines)

-- some of the lines were passed, and the runs left of x are these
pub record RunsSoFar (takes : Windings → Bool) (y x : ℤ) (lines before after : List ActiveLine) (ended : List Trapezoid) (below : Windings)
    (runs : Runs) : Type 0 where
  pub gone : List ActiveLine
  pub split : lines ≡ gone ++ after
  pub below_is : last_windings no_windings gone ≡ below
  pub are : RunsAre takes y x gone before after ended below runs

-- the noted lines give way to those above, with the runs there, whatever the test is that the rule is, and whatever lines
-- are right of them
abbrev pub PassesOver : (ℤ → ℤ → Bool → Type 0) → ℤ → Windings → Windings → Runs → Front → Front → Runs → Type 0
PassesOver post y above beyond runs front front1 runs1 =
    (takes : Windings → Bool) (x : ℤ) (below : Windings) (gone rest : List ActiveLine) → IsTest post takes
    → IsCrossing takes y x below above gone front.lines.before front.below.items front.above.items rest
    → beyond ≡ last_windings above front.above.items
    → RunsAre takes y x gone front.lines.before (front.below.items ++ rest) front.ended.items below runs
    → RunsAre takes y (x +ℤ pos 1) (gone ++ front.below.items) (front1.lines.before ++ front1.opened.items) rest front1.ended.items
    (last_windings below front.below.items) runs1

-- the point is passed with its runs
abbrev pub CrossesRuns : (ℤ → ℤ → Bool → Type 0) → ℤ → ℤ → Gap → ActiveList → List Trapezoid → ActiveList → List Trapezoid → Gap → Type 0
CrossesRuns post y x left old ended new ended1 right =
    (takes : Windings → Bool) (edges : List EdgeParts) (events : List Event) (lines : List ActiveLine) → IsTest post takes → MayPass takes y lines
    → IsAt edges y x left.sides.below left.sides.above old.before old.after events
    → RunsSoFar takes y x lines old.before old.after ended left.sides.below left.runs
    → RunsSoFar takes y (x +ℤ pos 1) lines new.before new.after ended1 right.sides.below right.runs

-- the line is passed alone, with its runs
abbrev pub PassesRun : (ℤ → ℤ → Bool → Type 0) → ℤ → Gap → ActiveLine → ActiveList → List Trapezoid → ActiveList → List Trapezoid → Gap → Type 0
PassesRun post y left line old ended new ended1 right =
    (takes : Windings → Bool) (edges : List EdgeParts) (x : ℤ) (events : List Event) (lines : List ActiveLine) → IsTest post takes → MayPass takes y lines
    → IsAt edges y x left.sides.below left.sides.above old.before old.after events → IsAlone y line.line new.after events
    → RunsSoFar takes y x lines old.before old.after ended left.sides.below left.runs
    → RunsSoFar takes y (x_on line.line y +ℤ pos 1) lines new.before new.after ended1 right.sides.below right.runs

-- the sweep is at some point on the way to its end, with these runs
pub record GoesOnWith (takes : Windings → Bool) (edges : List EdgeParts) (y : ℤ) (end : Option Point) (lines : List ActiveLine) (gap : Gap)
    (list : ActiveList) (events : List Event) (ended : List Trapezoid) : Type 0 where
  pub x : ℤ
  pub up_to : IsUpTo end x
  pub at : IsAt edges y x gap.sides.below gap.sides.above list.before list.after events
  pub none : EventsFrom y end events
  pub apart : MeetingsFrom y end list.after
  pub runs : RunsSoFar takes y x lines list.before list.after ended gap.sides.below gap.runs

abbrev pub PassesRunsOn : (ℤ → ℤ → Bool → Type 0) → ℤ → Option Point → Gap → ActiveList → List Trapezoid → ActiveList → List Trapezoid → Gap → Type 0
PassesRunsOn post y end left old ended new ended1 right =
    (takes : Windings → Bool) (edges : List EdgeParts) (events : List Event) (lines : List ActiveLine) → IsTest post takes → MayPass takes y lines
    → GoesOnWith takes edges y end lines left old events ended → GoesOnWith takes edges y end lines right new events ended1

-- where the windings are the same below and above, so are the runs
abbrev pub IsSettledGap : Gap → Type 0
IsSettledGap gap = gap.sides.below ≡ gap.sides.above → gap.runs ≡ Alike

-- the runs are made so, which stays true of the list and what ended
pub record SettlesRuns (y : ℤ) (left : Gap) (old new : ActiveList) (right : Gap) : Type 0 where
  pub settled : IsSettledGap right
  pub runs : (takes : Windings → Bool) (x : ℤ) (lines : List ActiveLine) (ended : List Trapezoid) → takes no_windings ≡ false
      → last_windings no_windings old.before ≡ left.sides.above → RunsSoFar takes y x lines old.before old.after ended left.sides.below left.runs
      → RunsSoFar takes y x lines new.before new.after ended right.sides.below right.runs

-- the sweep comes to the point with its runs
abbrev pub ComesToRuns : Point → Gap → ActiveList → ActiveList → Gap → Type 0
ComesToRuns p left old new right =
    (takes : Windings → Bool) (edges : List EdgeParts) (events : List Event) (lines : List ActiveLine) (ended : List Trapezoid) → MayPass takes p.y lines
    → IsSettledGap left → GoesOnWith takes edges p.y (Some p) lines left old events ended → HasEnded p.y (Some p) left.sides old.after
    → RunsSoFar takes p.y p.x lines new.before new.after ended right.sides.below right.runs

-- on the way over the stop, with its runs
pub record IsOnWayWith (takes : Windings → Bool) (edges : List EdgeParts) (y : ℤ) (meeting : Option Point) (lines : List ActiveLine) (gap : Gap)
    (list : ActiveList) (events : List Event) (ended : List Trapezoid) : Type 0 where
  pub x : ℤ
  pub at : IsAt edges y x gap.sides.below gap.sides.above list.before list.after events
  pub next : IsNextMeeting y meeting list.after
  pub runs : RunsSoFar takes y x lines list.before list.after ended gap.sides.below gap.runs
