-- A stop as a whole, with its runs: from left of all lines over one point after the other to right of all lines.
use Rattle.std.proofs.Common.{ℤ, pos, ◌+ℤ◌, ◌-ℤ◌, ◌≡◌, ◌≤ℤ◌, ◌<ℤ◌, inl, inr, Bool, false, List, [], ◌∷◌, ◌++◌, Option, Some, None}
use Rattle.std.proofs.Common.{append-nil, arith, refl, ap, sym, subst, ◌∙◌}
use Rattle.std.specs.Int.{int_max}
use Rattle.std.proofs.lemmas.Int.{ints, clamps}
use Rattle.std.proofs.lemmas.List.Elements.{All-nil, All-cons, All-weaker}
use Rattle.half_grid.specs.Edges.{EdgeParts}
use Rattle.half_grid.specs.Lines.{x_on}
use Rattle.half_grid.specs.Trapezoids.{Trapezoid}
use Rattle.half_grid.specs.declared.plane.Point.{Point}
use Rattle.active_lines.specs.ActiveLists.{ActiveList, items}
use Rattle.active_lines.specs.Points.{AscendAt}
use Rattle.active_lines.specs.declared.item.ActiveLine.{ActiveLine}
use Rattle.active_lines.specs.declared.item.Windings.{Windings}
use Rattle.row_lists.specs.declared.event.Event.{Event}
use Rattle.row_lists.specs.RowLists.{AscendIn, no_windings}
use Rattle.row_lists.specs.RowRuns.{last_windings, runs_of}
use Rattle.row_lists.specs.Halfway.{PassLeft, PassAtOrRight}
use Rattle.row_lists.proofs.ForCallers.{last_append}
use Rattle.plane_sweep.specs.declared.point.Gap.{Gap}
use Rattle.plane_sweep.specs.declared.entry.Runs.{Runs}
use Rattle.plane_sweep.specs.declared.entry.Runs.TheVariants.{Alike, Apart}
use Rattle.plane_sweep.specs.StopRuns.{growing_of, AreOpened}
use Rattle.plane_sweep.specs.RuleTests.{IsTest}
use Rattle.plane_sweep.specs.Settled.{IsSettled}
use Rattle.plane_sweep.specs.Crossings.{RunsAre}
use Rattle.plane_sweep.specs.Stops.{IsAt, MeetFrom, HasEnded, IsBelowStop, IsEventPoint, IsMeetingPoint, IsNextMeeting, nearer_of}
use Rattle.plane_sweep.specs.WayRuns.{MayPass, RunsSoFar, CrossesRuns, GoesOnWith, PassesRunsOn, IsSettledGap, ComesToRuns, IsOnWayWith}
use Rattle.plane_sweep.proofs.ComingTo.{begin_at, meets_by}
use Rattle.plane_sweep.proofs.CrossPoint.{shut_after, opened_after, same_runs}
use Rattle.plane_sweep.proofs.RunsQuiet.{runs_first, runs_quiet, runs_last}
use Rattle.plane_sweep.proofs.StopLemmas.{below_ascend, no_meetings}
use Rattle.plane_sweep.proofs.WholeStop.{next_some, next_none}

-- ---- at the start

pub begin_with : (takes : Windings → Bool) (edges : List EdgeParts) (y : ℤ) (meeting : Option Point) (gap : Gap) (list : ActiveList) (events : List Event)
    (ended : List Trapezoid) → takes no_windings ≡ false → list.before ≡ [] → IsBelowStop edges y (items list) events → IsMeetingPoint y list.after meeting
    → gap.sides.below ≡ no_windings → gap.sides.above ≡ no_windings → gap.runs ≡ Alike → ended ≡ []
    → IsOnWayWith takes edges y meeting (items list) gap list events ended
begin_with takes edges y meeting gap list events ended nothing none below meets e f runs empty =
    let all : items list ≡ list.after = ap (λ (ls : List ActiveLine). ls ++ list.after) none in
    let at = begin_at edges y list.after events (subst (λ (ls : List ActiveLine). IsBelowStop edges y ls events) all below) in
    let first : RunsSoFar takes y at.0 (items list) [] list.after [] no_windings Alike = record {
      gone = [];
      split = all;
      below_is = refl;
      are = runs_first takes y at.0 list.after nothing;
    } in
    record {
      x = at.0;
      at = subst (λ (ls : List ActiveLine). IsAt edges y at.0 gap.sides.below gap.sides.above ls list.after events) (sym none)
          (subst (λ (w : Windings). IsAt edges y at.0 w gap.sides.above [] list.after events) (sym e)
          (subst (λ (w : Windings). IsAt edges y at.0 no_windings w [] list.after events) (sym f) at.1));
      next = meets_by y meeting list.after (below_ascend y list.after at.1.halfway.ascend_after) meets;
      runs = subst (λ (r : Runs). RunsSoFar takes y at.0 (items list) list.before list.after ended gap.sides.below r) (sym runs)
          (subst (λ (zs : List Trapezoid). RunsSoFar takes y at.0 (items list) list.before list.after zs gap.sides.below Alike) (sym empty)
          (same_runs takes y at.0 (items list) [] list.before list.after list.after [] [] no_windings gap.sides.below Alike none refl refl e first));
    }

-- ---- one point

module _ (takes : Windings → Bool) (edges : List EdgeParts) (y : ℤ) (meeting : Option Point) (lines : List ActiveLine) (gap : Gap) (list : ActiveList)
    (events : List Event) (ended : List Trapezoid) (s : IsOnWayWith takes edges y meeting lines gap list events ended)
    (ev : Option Point) (is_ev : IsEventPoint y events ev) where
  goes_by : (next : Option Point) → nearer_of ev meeting ≡ next → GoesOnWith takes edges y next lines gap list events ended
  goes_by None e =
      let k = next_none y s.x events list.after s.at.events.after s.at.events.ascend s.at.halfway.right ev meeting is_ev s.next e in
      record { x = s.x; up_to = tt; at = s.at; none = k.0; apart = k.1; runs = s.runs }
  goes_by (Some n) e =
      let k = next_some y s.x events list.after s.at.events.after s.at.events.ascend s.at.halfway.right ev meeting n is_ev s.next e in
      record { x = s.x; up_to = k.up; at = s.at; none = (k.at_y, k.none); apart = (k.at_y, k.apart); runs = s.runs }

  pub goes_first_with : (next : Option Point) → next ≡ nearer_of ev meeting → GoesOnWith takes edges y next lines gap list events ended
  goes_first_with next e = goes_by next (sym e)

  -- over the lines up to the point, to the point, and over it
  pub point_with : (post : ℤ → ℤ → Bool → Type 0) (next : Option Point) → next ≡ nearer_of ev meeting → (n : Point) → next ≡ Some n → n.y ≡ y
      → (right left gap3 : Gap) (list1 list2 list3 : ActiveList) (ended1 ended3 : List Trapezoid) → PassesRunsOn post y next gap list ended list1 ended1 right
      → (AscendAt y list.after → HasEnded y next right.sides list1.after) → IsSettledGap right → ComesToRuns n right list1 list2 left
      → IsAt edges n.y n.x left.sides.below left.sides.above list2.before list2.after events → CrossesRuns post n.y n.x left list2 ended1 list3 ended3 gap3
      → IsTest post takes → MayPass takes y lines
      → RunsSoFar takes n.y (n.x +ℤ pos 1) lines list3.before list3.after ended3 gap3.sides.below gap3.runs
  point_with post next next_is n some at_y right left gap3 list1 list2 list3 ended1 ended3 on has_ended settled come at cross test may =
      let here = subst (λ (z : ℤ). MayPass takes z lines) (sym at_y) may in
      let goes = subst (λ (end : Option Point). GoesOnWith takes edges y end lines right list1 events ended1) some
      (on takes edges events lines test may (goes_first_with next next_is)) in
      let up = subst (λ (end : Option Point). HasEnded y end right.sides list1.after) some
      (has_ended (below_ascend y list.after s.at.halfway.ascend_after)) in
      cross takes edges events lines test here at
      (come takes edges events lines ended1 here settled
      (subst (λ (z : ℤ). GoesOnWith takes edges z (Some n) lines right list1 events ended1) (sym at_y) goes)
      (subst (λ (z : ℤ). HasEnded z (Some n) right.sides list1.after) (sym at_y) up))

-- after it, on the way to the next one
pub way_on_with : (takes : Windings → Bool) (edges : List EdgeParts) (y : ℤ) (meeting : Option Point) (lines : List ActiveLine) (n : Point) (gap : Gap)
    (list : ActiveList) (events : List Event) (ended : List Trapezoid) → n.y ≡ y
    → IsAt edges n.y (n.x +ℤ pos 1) gap.sides.below gap.sides.above list.before list.after events → IsNextMeeting y meeting list.after
    → RunsSoFar takes n.y (n.x +ℤ pos 1) lines list.before list.after ended gap.sides.below gap.runs
    → IsOnWayWith takes edges y meeting lines gap list events ended
way_on_with takes edges y meeting lines n gap list events ended at_y at next runs = record {
  x = n.x +ℤ pos 1;
  at = subst (λ (z : ℤ). IsAt edges z (n.x +ℤ pos 1) gap.sides.below gap.sides.above list.before list.after events) at_y at;
  next = next;
  runs = subst (λ (z : ℤ). RunsSoFar takes z (n.x +ℤ pos 1) lines list.before list.after ended gap.sides.below gap.runs) at_y runs;
}

-- ---- right of all lines

-- a place right of all of the lines
beyond_all : (y x : ℤ) (lines : List ActiveLine) → (to : ℤ) × (x ≤ℤ to) × PassLeft y to lines
beyond_all y x [] = (x, omega (arith, ints), All-nil (λ m. x_on m.line y <ℤ x))
beyond_all y x (l ∷ lines) =
    let more = beyond_all y x lines in
    let to = int_max (x_on l.line y +ℤ pos 1) more.0 in
    let up = more.1 in (
      to,
      omega (arith, ints, clamps, up),
      All-cons (λ m. x_on m.line y <ℤ to) l lines (omega (arith, ints, clamps))
          (All-weaker (λ m. x_on m.line y <ℤ more.0) (λ m. x_on m.line y <ℤ to) (λ m lt. omega (arith, ints, clamps, lt)) lines more.2),
    )

same_taken : (takes : Windings → Bool) (y x : ℤ) (gone before rest : List ActiveLine) (given : List Trapezoid) (w v : Windings) (runs : Runs)
    → takes w ≡ takes v → RunsAre takes y x gone before rest given w runs → RunsAre takes y x gone before rest given v runs
same_taken takes y x gone before rest given w v Alike e s = (s.0, sym e ∙ s.1)
same_taken takes y x gone before rest given w v (Apart r) e s = (s.0, sym e ∙ s.1)

module _ (takes : Windings → Bool) (edges : List EdgeParts) (y : ℤ) (lines : List ActiveLine) (gap : Gap) (list : ActiveList)
    (events : List Event) (ended : List Trapezoid) (may : MayPass takes y lines) (goes : GoesOnWith takes edges y None lines gap list events ended) where
  shut : takes (last_windings gap.sides.below list.after) ≡ false
  shut = shut_after takes y lines goes.runs.gone list.after gap.sides.below may goes.runs.split goes.runs.below_is

  -- over the lines that are left, where nothing differs
  rest_with : gap.sides.below ≡ gap.sides.above → gap.runs ≡ Alike
      → IsSettled y (growing_of lines) (runs_of takes false (items list)) (growing_of (items list)) ended
  rest_with same alike =
      let w = gap.sides.below in
      let s = goes.runs in
      let end = beyond_all y goes.x list.after in
      let far = end.0 in
      let near = end.2 in
      let last : last_windings no_windings list.before ≡ w = goes.at.halfway.last ∙ sym same in
      let whole : list.after ≡ list.after ++ [] = sym (append-nil list.after) in
      let are : RunsAre takes y goes.x s.gone list.before (list.after ++ []) ended w Alike
      = subst (λ (ls : List ActiveLine). RunsAre takes y goes.x s.gone list.before ls ended w Alike) whole
      (subst (λ (r : Runs). RunsAre takes y goes.x s.gone list.before list.after ended w r) alike s.are) in
      let quiet = runs_quiet takes y goes.x s.gone list.before ended w may.nothing last far list.after [] are
      (subst (λ (ls : List ActiveLine). takes (last_windings w ls) ≡ false) whole shut)
      end.1 near (All-nil (λ l. far ≤ℤ x_on l.line y)) (subst (PassAtOrRight y goes.x) whole goes.at.halfway.right)
      (subst (AscendIn (y -ℤ pos 1)) whole goes.at.halfway.ascend_after)
      (no_meetings y far list.after [] (subst (MeetFrom y far) whole (goes.apart far)) near)
      (subst (AreOpened takes (takes w)) whole (opened_after takes y lines s.gone list.after w may s.split s.below_is)) in
      subst (λ (ls : List ActiveLine). IsSettled y (growing_of ls) (runs_of takes false (items list)) (growing_of (items list)) ended) (sym s.split)
      (runs_last takes y far (s.gone ++ list.after) (list.before ++ list.after) ended (last_windings w list.after) may.nothing
      (last_append no_windings list.before list.after ∙ ap (λ (v : Windings). last_windings v list.after) last) [] Alike shut quiet)

  -- where no line is left
  end_with : takes (last_windings no_windings (items list)) ≡ false → list.after ≡ []
      → IsSettled y (growing_of lines) (runs_of takes false (items list)) (growing_of (items list)) ended
  end_with shut_above none =
      let w = last_windings no_windings list.before in
      let s = goes.runs in
      let all : items list ≡ list.before = ap (λ (ls : List ActiveLine). list.before ++ ls) none ∙ append-nil list.before in
      let gone : lines ≡ s.gone = s.split ∙ (ap (λ (ls : List ActiveLine). s.gone ++ ls) none ∙ append-nil s.gone) in
      let below : takes gap.sides.below ≡ false = subst (λ (ls : List ActiveLine). takes (last_windings gap.sides.below ls) ≡ false) none shut in
      let above : takes w ≡ false = ap (λ (ls : List ActiveLine). takes (last_windings no_windings ls)) (sym all) ∙ shut_above in
      subst (λ (ls : List ActiveLine). IsSettled y (growing_of ls) (runs_of takes false (items list)) (growing_of (items list)) ended) (sym gone)
      (subst (λ (ls : List ActiveLine). IsSettled y (growing_of s.gone) (runs_of takes false ls) (growing_of ls) ended) (sym all)
      (runs_last takes y goes.x s.gone list.before ended w may.nothing refl list.after gap.runs above
      (same_taken takes y goes.x s.gone list.before list.after ended gap.sides.below w gap.runs (below ∙ sym above) s.are)))

  pub done_with : takes (last_windings no_windings (items list)) ≡ false → IsSettledGap gap → HasEnded y None gap.sides list.after
      → IsSettled y (growing_of lines) (runs_of takes false (items list)) (growing_of (items list)) ended
  done_with shut_above settled (inl same) = rest_with same (settled same)
  done_with shut_above settled (inr none) = end_with shut_above none

pub stop_with : (post : ℤ → ℤ → Bool → Type 0) (takes : Windings → Bool) (edges : List EdgeParts) (y : ℤ) (meeting : Option Point) (lines : List ActiveLine)
    (gap right : Gap) (list list1 : ActiveList) (events : List Event) (ended ended1 : List Trapezoid)
    → IsOnWayWith takes edges y meeting lines gap list events ended → (ev : Option Point) → IsEventPoint y events ev → (next : Option Point)
    → next ≡ nearer_of ev meeting → next ≡ None → PassesRunsOn post y next gap list ended list1 ended1 right
    → (AscendAt y list.after → HasEnded y next right.sides list1.after) → IsSettledGap right → IsTest post takes → MayPass takes y lines
    → takes (last_windings no_windings (items list1)) ≡ false
    → IsSettled y (growing_of lines) (runs_of takes false (items list1)) (growing_of (items list1)) ended1
stop_with post takes edges y meeting lines gap right list list1 events ended ended1 s ev is_ev next next_is none on has_ended settled test may shut_above =
    let goes = subst (λ (end : Option Point). GoesOnWith takes edges y end lines right list1 events ended1) none
    (on takes edges events lines test may (goes_first_with takes edges y meeting lines gap list events ended s ev is_ev next next_is)) in
    done_with takes edges y lines right list1 events ended1 may goes shut_above settled
    (subst (λ (end : Option Point). HasEnded y end right.sides list1.after) none (has_ended (below_ascend y list.after s.at.halfway.ascend_after)))
