-- A point of a stop, with the lines through it below and above, and what the rows have left of it and right of it.
use Rattle.std.specs.Prelude.{ℤ, pos, ◌+ℤ◌, ◌-ℤ◌, ◌≡◌, ◌≢◌, ◌⊎◌, Bool, true, false, ◌&&◌, not, List, [], ◌∷◌, ◌++◌, map}
use Rattle.std.specs.Prelude.{Option, Some, None, IfSome, All, is_some}
use Rattle.std.specs.Option.{option_to_list}
use Rattle.half_grid.specs.Trapezoids.{Trapezoid, trapezoid, IsShot}
use Rattle.half_grid.specs.declared.plane.Line.{Line}
use Rattle.trap_join.specs.declared.front.Growing.{Growing}
use Rattle.trap_join.specs.Fronts.{ended_at}
use Rattle.active_lines.specs.ActiveLists.{IsShut, IsReopened}
use Rattle.active_lines.specs.declared.item.ActiveLine.{ActiveLine}
use Rattle.active_lines.specs.declared.item.Opened.{Opened}
use Rattle.active_lines.specs.declared.item.Windings.{Windings}
use Rattle.row_lists.specs.RowLists.{AscendIn, no_windings}
use Rattle.row_lists.specs.RowRuns.{last_windings}
use Rattle.row_lists.specs.Halfway.{PassAt, PassAtOrRight}
use Rattle.plane_sweep.specs.StopRuns.{growing_of, AreOpened, open_after, ends_among, end_among}
use Rattle.plane_sweep.specs.States.{AreAlikeAt, AreJoinedAt, AreApartAt, HasEntered}
use Rattle.plane_sweep.specs.RuleTests.{IsTest}
use Rattle.plane_sweep.specs.declared.entry.Runs.{Runs}
use Rattle.plane_sweep.specs.declared.entry.Runs.TheVariants.{Alike, Apart}
use Rattle.plane_sweep.specs.declared.entry.Entered.{Entered}
use Rattle.plane_sweep.specs.declared.entry.Entered.TheVariants.{Together, Separate}

-- `old` are the lines through the point in the row below, `new` those in the row above; left of the point the windings are
-- `below` and `above`
pub record IsCrossing (takes : Windings → Bool) (y x : ℤ) (below above : Windings) (gone before old new rest : List ActiveLine) : Type 0 where
  pub nothing : takes no_windings ≡ false
  pub above_is : last_windings no_windings before ≡ above
  pub shut : takes (last_windings below (old ++ rest)) ≡ false
  pub opened : AreOpened takes (takes below) (old ++ rest)
  pub old_at : PassAt y x old
  pub old_ascend : AscendIn (y -ℤ pos 1) (old ++ rest)
  pub right : PassAtOrRight y (x +ℤ pos 1) rest
  pub new_at : PassAt y x new
  pub new_ascend : AscendIn y new
  pub shots : All (λ g. IsShot (ended_at y g)) (growing_of (gone ++ old))

-- the rows have these runs left of x; the row below has these windings there
abbrev pub RunsAre : (Windings → Bool) → ℤ → ℤ → List ActiveLine → List ActiveLine → List ActiveLine → List Trapezoid → Windings → Runs → Type 0
RunsAre takes y x gone before rest given below Alike =
    (AreAlikeAt takes y x gone before rest given ⊎ AreJoinedAt takes y x gone before rest given) × (takes below ≡ is_some (open_after takes None before))
RunsAre takes y x gone before rest given below (Apart right) = AreApartAt takes y x gone before rest given right × (takes below ≡ is_some right)

-- a run below passes the point
abbrev pub passes_below : (Windings → Bool) → Windings → List ActiveLine → Bool
passes_below takes below old = takes below && not (ends_among takes old)

-- these enter the point
abbrev pub EnteredAre : (Windings → Bool) → ℤ → ℤ → List ActiveLine → List ActiveLine → List ActiveLine → List ActiveLine → List ActiveLine
    → List Trapezoid → Windings → Bool → Entered → Type 0
EnteredAre takes y x gone before old new rest given below inside Together =
    (AreAlikeAt takes y x gone before (old ++ rest) given ⊎ AreJoinedAt takes y x gone before (old ++ rest) given) × (inside ≡ true) × (takes below ≡ true)
    × (ends_among takes old ≡ false) × (ends_among takes new ≡ false)
EnteredAre takes y x gone before old new rest given below inside (Separate right) =
    (growing : Option Growing) × HasEntered takes y x gone before new rest inside given growing right × (is_some right ≡ passes_below takes below old)

-- the right line of the run below that is open after the point, and was given: it passes the point, or begins there
abbrev pub after_of : Option Line → Option Growing → Option Line
after_of (Some r) leaving = Some r
after_of None None = None
after_of None (Some c) = Some c.right

-- the run that leaves the point below is not the one that leaves it above
abbrev pub LeaveApart : Option Growing → Option ActiveLine → Type 0
LeaveApart leaving begun = (b : ActiveLine) → begun ≡ Some b → IfSome leaving (λ c. c.left ≢ b.line)

-- it is
pub record LeavesOn (leaving : Option Growing) (begun : Option ActiveLine) (kept : Opened) : Type 0 where
  pub c : Growing
  pub b : ActiveLine
  pub leaving_is : leaving ≡ Some c
  pub begun_is : begun ≡ Some b
  pub same : c.left ≡ b.line
  pub kept_is : kept ≡ (let o : Opened = record { right = c.right; since = c.y0 } in o)

-- ---- what the code does, one step at a time

-- of the trapezoid that was open last and the one that is open at the line, if any, all but the last one ended
abbrev pub EndsStep : ℤ → List Trapezoid → Option Growing → ActiveLine → List Trapezoid → Option Growing → Type 0
EndsStep y given last l given1 next =
    IfSome last (λ g. IsShot (ended_at y g))
    → (done : List Growing) × (option_to_list last ++ growing_of (l ∷ []) ≡ done ++ option_to_list next) × (given1 ≡ given ++ map (ended_at y) done)
    × (next ≡ None → (last ≡ None) × (done ≡ []))

-- all that are open at the lines ended, but the last one
abbrev pub EndedBut : ℤ → List Trapezoid → List ActiveLine → List Trapezoid → Option Growing → Type 0
EndedBut y given lines given1 last =
    All (λ g. IsShot (ended_at y g)) (growing_of lines)
    → (inner : List Growing) × (growing_of lines ≡ inner ++ option_to_list last) × (given1 ≡ given ++ map (ended_at y) inner) × (last ≡ None → inner ≡ [])

-- it ended too
abbrev pub EndsLast : ℤ → List Trapezoid → Option Growing → List Trapezoid → Type 0
EndsLast y given last given1 = IfSome last (λ g. IsShot (ended_at y g)) → given1 ≡ given ++ map (ended_at y) (option_to_list last)

-- the trapezoid that was open last was given, where it began below the stop, and another one is open there
pub record HasEndedOpen (y : ℤ) (before before1 : List ActiveLine) (right : Line) (given given1 : List Trapezoid) (found : Option Line) : Type 0 where
  pub l : ActiveLine
  pub k : Opened
  pub again : IsReopened (let o : Opened = record { right = right; since = y } in o) before l before1
  pub is : l.opened ≡ Some k
  pub shot : IsShot (trapezoid k.since y l.line k.right) → given1 ≡ given ++ trapezoid k.since y l.line k.right ∷ []
  pub none : k.since ≡ y → given1 ≡ given
  pub found_is : found ≡ Some k.right

abbrev pub EndsOpen : ℤ → List ActiveLine → List ActiveLine → Line → List Trapezoid → List Trapezoid → Option Line → Type 0
EndsOpen y before before1 right given given1 found = (All IsShut before → ⊥) → HasEndedOpen y before before1 right given given1 found

-- so it enters, whatever the test is
abbrev pub EntersAlike : ℤ → Bool → Option Line → Option Line → List ActiveLine → List ActiveLine → List Trapezoid → List Trapezoid → Entered → Type 0
EntersAlike y inside from to before before1 given given1 entered =
    (takes : Windings → Bool) (x : ℤ) (below above : Windings) (gone old new rest : List ActiveLine) → IsCrossing takes y x below above gone before old new rest
    → RunsAre takes y x gone before (old ++ rest) given below Alike → inside ≡ takes above → from ≡ end_among takes old → to ≡ end_among takes new
    → EnteredAre takes y x gone before1 old new rest given1 below inside entered

-- what is right of the point of the run below, which ends where `found` is
abbrev pub beyond_of : Option Line → Option Line → Option Line
beyond_of right (Some e) = None
beyond_of right None = right

abbrev pub EntersApart : ℤ → Bool → Option Line → Option Line → Option Line → List ActiveLine → List ActiveLine → Entered → Type 0
EntersApart y inside right from to before before1 entered =
    (takes : Windings → Bool) (x : ℤ) (below above : Windings) (gone old new rest : List ActiveLine) (given : List Trapezoid)
    → IsCrossing takes y x below above gone before old new rest
    → RunsAre takes y x gone before (old ++ rest) given below (Apart right) → inside ≡ takes above → from ≡ end_among takes old → to ≡ end_among takes new
    → EnteredAre takes y x gone before1 old new rest given below inside entered

abbrev pub Enters : ℤ → Bool → Runs → Option Line → Option Line → List ActiveLine → List ActiveLine → List Trapezoid → List Trapezoid → Entered → Type 0
Enters y inside runs from to before before1 given given1 entered =
    (takes : Windings → Bool) (x : ℤ) (below above : Windings) (gone old new rest : List ActiveLine) → IsCrossing takes y x below above gone before old new rest
    → RunsAre takes y x gone before (old ++ rest) given below runs → inside ≡ takes above → from ≡ end_among takes old → to ≡ end_among takes new
    → EnteredAre takes y x gone before1 old new rest given1 below inside entered

-- all that are open at the lines ended, or all but the last one, where it goes on
abbrev pub EndsLines : ℤ → List Trapezoid → List ActiveLine → Bool → List Trapezoid → Type 0
EndsLines y given lines true given1 = (last : Option Growing) × EndedBut y given lines given1 last
EndsLines y given lines false given1 = All (λ g. IsShot (ended_at y g)) (growing_of lines) → given1 ≡ given ++ map (ended_at y) (growing_of lines)

-- the runs right of a point
abbrev pub settled_runs : Bool → Option Line → Runs
settled_runs taken (Some r) = Apart (Some r)
settled_runs true None = Apart None
settled_runs false None = Alike

abbrev pub runs_after : Entered → Option Growing → Bool → Bool → Runs
runs_after Together leaving goes_on taken = Alike
runs_after (Separate right) leaving true taken = Alike
runs_after (Separate right) leaving false taken = settled_runs taken (after_of right leaving)

-- the point is passed, whatever the test is that the rule is, and whatever lines are right of it
abbrev pub PassesRuns : (ℤ → ℤ → Bool → Type 0) → ℤ → Windings → Windings → Runs → List ActiveLine → List ActiveLine → List ActiveLine → List ActiveLine
    → List ActiveLine → List Trapezoid → List Trapezoid → Runs → Type 0
PassesRuns post y above beyond runs old new opened before before1 given given1 runs1 =
    (takes : Windings → Bool) (x : ℤ) (below : Windings) (gone rest : List ActiveLine) → IsTest post takes
    → IsCrossing takes y x below above gone before old new rest
    → beyond ≡ last_windings above new → RunsAre takes y x gone before (old ++ rest) given below runs
    → RunsAre takes y (x +ℤ pos 1) (gone ++ old) (before1 ++ opened) rest given1 (last_windings below old) runs1
