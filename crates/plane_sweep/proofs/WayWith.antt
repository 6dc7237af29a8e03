-- The way over a stop with its runs: lines that are passed one by one, where nothing differs any more, and points that are come to.
use Rattle.std.proofs.Common.{ℤ, pos, ◌+ℤ◌, ◌-ℤ◌, ◌≡◌, ◌≢◌, ◌≤ℤ◌, ◌<ℤ◌, inl, inr, Bool, false, List, [], ◌∷◌, ◌++◌, Option, Some, None}
use Rattle.std.proofs.Common.{IfSome, IfNone, All, append_assoc, arith, refl, ap, sym, subst, ◌∙◌}
use Rattle.std.proofs.lemmas.Int.{ints}
use Rattle.std.proofs.lemmas.List.Elements.{All-head, All-tail, All-weaker}
use Rattle.half_grid.specs.Edges.{EdgeParts}
use Rattle.half_grid.specs.Lines.{x_on}
use Rattle.half_grid.specs.Trapezoids.{Trapezoid}
use Rattle.half_grid.specs.declared.plane.Line.{Line}
use Rattle.half_grid.specs.declared.plane.Point.{Point}
use Rattle.trap_join.specs.declared.front.Growing.{Growing}
use Rattle.active_lines.specs.ActiveLists.{ActiveList, items, IsShut, IsReopened}
use Rattle.active_lines.specs.Points.{IsBefore, IsNotBefore}
use Rattle.active_lines.specs.declared.item.ActiveLine.{ActiveLine}
use Rattle.active_lines.specs.declared.item.Opened.{Opened}
use Rattle.active_lines.specs.declared.item.Windings.{Windings}
use Rattle.row_lists.specs.declared.event.Event.{Event}
use Rattle.row_lists.specs.RowLists.{AscendIn, no_windings}
use Rattle.row_lists.specs.RowRuns.{last_windings}
use Rattle.row_lists.specs.Halfway.{PassAtOrRight}
use Rattle.row_lists.proofs.ForCallers.{last_append}
use Rattle.plane_sweep.specs.declared.point.Sides.{Sides}
use Rattle.plane_sweep.specs.declared.point.Gap.{Gap}
use Rattle.plane_sweep.specs.declared.entry.Runs.{Runs}
use Rattle.plane_sweep.specs.declared.entry.Runs.TheVariants.{Alike, Apart}
use Rattle.plane_sweep.specs.StopRuns.{growing_of, growing_by, AreOpened}
use Rattle.plane_sweep.specs.Crossings.{RunsAre}
use Rattle.plane_sweep.specs.Stops.{IsAt, IsAlone, IsBeforeEnd, MeetFrom, MeetingsFrom, PassesAlone}
use Rattle.plane_sweep.specs.WayRuns.{RunsSoFar, PassesRun, PassesRunsOn, SettlesRuns, ComesToRuns}
use Rattle.plane_sweep.proofs.AlikeRuns.{alike_last, reopen_alike}
use Rattle.plane_sweep.proofs.BundleLemmas.{rest_all}
use Rattle.plane_sweep.proofs.CrossPoint.{shut_after, opened_after}
use Rattle.plane_sweep.proofs.EnterApart.{apart_open}
use Rattle.plane_sweep.proofs.QuietAlike.{open_is}
use Rattle.plane_sweep.proofs.RunsFurther.{runs_further}
use Rattle.plane_sweep.proofs.RunsQuiet.{runs_quiet, runs_settle_none, runs_settle}
use Rattle.plane_sweep.proofs.StopLemmas.{further, no_meetings}
use Rattle.plane_sweep.proofs.WayLemmas.{beyond_by, beside_by, up_to, meetings_rest}

-- ---- lines one by one

pub line_passed_with : (post : ℤ → ℤ → Bool → Type 0) (y : ℤ) (end : Option Point) (begin left right : Gap) (first old new : ActiveList)
    (ended0 ended ended1 : List Trapezoid) (l : ActiveLine) → old.after ≡ l ∷ new.after → IsBeforeEnd y end l
    → PassesAlone y left.sides l old new right.sides → PassesRun post y left l old ended new ended1 right
    → PassesRunsOn post y end begin first ended0 old ended left → PassesRunsOn post y end begin first ended0 new ended1 right
line_passed_with post y end begin left right first old new ended0 ended ended1 l split before passes run on takes edges events lines test may goes =
    let now = on takes edges events lines test may goes in
    let ascend = subst (AscendIn (y -ℤ pos 1)) split now.at.halfway.ascend_after in
    let apart = subst (MeetingsFrom y end) split now.apart in
    let alone : IsAlone y l.line new.after events = record {
      beside = beside_by y end l new.after ascend before apart;
      beyond = beyond_by y end l events before now.none;
    } in
    record {
      x = x_on l.line y +ℤ pos 1;
      up_to = up_to y end l before;
      at = passes edges now.x events now.at alone;
      none = now.none;
      apart = meetings_rest y end (l ∷ []) new.after apart;
      runs = run takes edges now.x events lines test may now.at alone now.runs;
    }

pub nothing_passed_with : (post : ℤ → ℤ → Bool → Type 0) (y : ℤ) (end : Option Point) (begin : Gap) (first : ActiveList) (ended : List Trapezoid)
    → PassesRunsOn post y end begin first ended first ended begin
nothing_passed_with post y end begin first ended takes edges events lines test may h = h

-- ---- where nothing differs any more

not_empty : (us : List Growing) (g : Growing) → us ++ g ∷ [] ≡ [] → ⊥
not_empty [] g h = absurd (let clash : ⊥ = cc in clash)
not_empty (u ∷ us) g h = absurd (let clash : ⊥ = cc in clash)

shut_growing : (lines : List ActiveLine) → All IsShut lines → growing_of lines ≡ []
shut_growing [] h = refl
shut_growing (l ∷ lines) h =
    ap (λ (o : Option Opened). growing_by l.line o (growing_of lines)) (All-head IsShut l lines h) ∙ shut_growing lines (All-tail IsShut l lines h)

pub not_settled : (y : ℤ) (left : Gap) (list : ActiveList) → left.sides.below ≢ left.sides.above → SettlesRuns y left list list left
not_settled y left list differ = record { settled = λ same. absurd (differ same); runs = λ takes x lines ended nothing last s. s }

module _ (y : ℤ) (left right : Gap) (same : left.sides.below ≡ left.sides.above) (sides : right.sides ≡ left.sides) (alike : right.runs ≡ Alike) where
  below_is : left.sides.below ≡ right.sides.below
  below_is = ap (λ (s : Sides). s.below) (sym sides)

  -- with the runs that are known
  settled_as : (takes : Windings → Bool) (x : ℤ) (lines : List ActiveLine) (old new : ActiveList) (ended : List Trapezoid)
      (s : RunsSoFar takes y x lines old.before old.after ended left.sides.below left.runs) → new.after ≡ old.after
      → RunsAre takes y x s.gone new.before old.after ended left.sides.below Alike
      → RunsSoFar takes y x lines new.before new.after ended right.sides.below right.runs
  settled_as takes x lines old new ended s after are =
      subst (λ (r : Runs). RunsSoFar takes y x lines new.before new.after ended right.sides.below r) (sym alike)
      (subst (λ (w : Windings). RunsSoFar takes y x lines new.before new.after ended w Alike) below_is
      (subst (λ (ls : List ActiveLine). RunsSoFar takes y x lines new.before ls ended left.sides.below Alike) (sym after)
      (record { gone = s.gone; split = s.split; below_is = s.below_is; are = are })))

  -- the runs, as the code tells them
  told : (takes : Windings → Bool) (x : ℤ) (lines : List ActiveLine) (list : ActiveList) (ended : List Trapezoid) (r : Runs)
      (s : RunsSoFar takes y x lines list.before list.after ended left.sides.below left.runs) → left.runs ≡ r
      → RunsAre takes y x s.gone list.before list.after ended left.sides.below r
  told takes x lines list ended r s was =
      subst (λ (k : Runs). RunsAre takes y x s.gone list.before list.after ended left.sides.below k) was s.are

  pub settled_alike : (list : ActiveList) → left.runs ≡ Alike → SettlesRuns y left list list right
  settled_alike list was = record {
    settled = λ e. alike;
    runs = λ takes x lines ended nothing last s. settled_as takes x lines list list ended s refl (told takes x lines list ended Alike s was);
  }

  pub settled_none : (list : ActiveList) → left.runs ≡ Apart None → SettlesRuns y left list list right
  settled_none list was = record {
    settled = λ e. alike;
    runs = λ takes x lines ended nothing last s.
        settled_as takes x lines list list ended s refl
        (runs_settle_none takes y x s.gone list.before ended left.sides.below nothing (last ∙ sym same) list.after
        (told takes x lines list ended (Apart None) s was));
  }

  reopened_runs : (old new : ActiveList) (r : Line) (found : Option ActiveLine) → left.runs ≡ Apart (Some r)
      → IfSome found (λ l. IsReopened (let o : Opened = record { right = r; since = y } in o) old.before l new.before) → IfNone found (All IsShut old.before)
      → new.after ≡ old.after → (takes : Windings → Bool) (x : ℤ) (lines : List ActiveLine) (ended : List Trapezoid) → takes no_windings ≡ false
      → last_windings no_windings old.before ≡ left.sides.above → RunsSoFar takes y x lines old.before old.after ended left.sides.below left.runs
      → RunsSoFar takes y x lines new.before new.after ended right.sides.below right.runs
  reopened_runs old new r None was again shut after takes x lines ended nothing last s =
      let are = told takes x lines old ended (Apart (Some r)) s was in
      let inside = open_is takes old.before left.sides.below nothing (last ∙ sym same) ∙ are.1 in
      let o = apart_open takes y x s.gone old.before old.after ended (Some r) are.0 inside in
      absurd (not_empty o.1.fresh o.0 (sym o.1.before_is ∙ shut_growing old.before shut))
  reopened_runs old new r (Some l) was again shut after takes x lines ended nothing last s =
      let are = told takes x lines old ended (Apart (Some r)) s was in
      let list = reopen_alike (let o : Opened = record { right = r; since = y } in o) old.before new.before l again in
      settled_as takes x lines old new ended s after
      (runs_settle takes y x s.gone old.before ended left.sides.below nothing (last ∙ sym same) old.after new.before r l are again
      (sym (alike_last no_windings old.before new.before list) ∙ (last ∙ sym same)))

  pub settled_some : (old new : ActiveList) (r : Line) (found : Option ActiveLine) → left.runs ≡ Apart (Some r)
      → IfSome found (λ l. IsReopened (let o : Opened = record { right = r; since = y } in o) old.before l new.before) → IfNone found (All IsShut old.before)
      → new.after ≡ old.after → SettlesRuns y left old new right
  settled_some old new r found was again shut after = record { settled = λ e. alike; runs = reopened_runs old new r found was again shut after }

pub settled_way : (post : ℤ → ℤ → Bool → Type 0) (y : ℤ) (end : Option Point) (begin left right : Gap) (first old new : ActiveList)
    (ended0 ended : List Trapezoid) → ((edges : List EdgeParts) (x : ℤ) (events : List Event)
    → IsAt edges y x left.sides.below left.sides.above old.before old.after events
    → IsAt edges y x right.sides.below right.sides.above new.before new.after events)
    → new.after ≡ old.after → SettlesRuns y left old new right
    → PassesRunsOn post y end begin first ended0 old ended left → PassesRunsOn post y end begin first ended0 new ended right
settled_way post y end begin left right first old new ended0 ended moves after settles on takes edges events lines test may goes =
    let now = on takes edges events lines test may goes in
    record {
      x = now.x;
      up_to = now.up_to;
      at = moves edges now.x events now.at;
      none = now.none;
      apart = subst (MeetingsFrom y end) (sym after) now.apart;
      runs = settles.runs takes now.x lines ended may.nothing now.at.halfway.last now.runs;
    }

-- ---- to a point

pub reaches_with : (p : Point) (left : Gap) (list : ActiveList) → left.sides.below ≢ left.sides.above → ComesToRuns p left list list left
reaches_with p left list differ takes edges events lines ended may settled goes (inl same) = absurd (differ same)
reaches_with p left list differ takes edges events lines ended may settled goes (inr right) = record {
  gone = goes.runs.gone;
  split = goes.runs.split;
  below_is = goes.runs.below_is;
  are = runs_further takes p.y goes.x p.x goes.up_to list.after right left.sides.below
      (shut_after takes p.y lines goes.runs.gone list.after left.sides.below may goes.runs.split goes.runs.below_is) goes.runs.gone list.before ended left.runs
      goes.runs.are;
}

pub goes_with : (p : Point) (left right : Gap) (old new : ActiveList) → left.sides.below ≡ left.sides.above → items new ≡ items old
    → All (IsBefore p.x p.y) new.before → All (IsNotBefore p.x p.y) new.after → right.sides.below ≡ last_windings no_windings new.before
    → right.runs ≡ left.runs → ComesToRuns p left old new right
goes_with p left right old new same all before after e runs takes edges events lines ended may settled goes on =
    let w = left.sides.below in
    let s = goes.runs in
    let up : goes.x ≤ℤ p.x = goes.up_to in
    let k = further p.y p.x old.before old.after new.before new.after (sym all)
    (All-weaker (λ l. x_on l.line p.y <ℤ goes.x) (λ l. x_on l.line p.y <ℤ p.x) (λ l lt. omega (arith, ints, lt, up)) old.before goes.at.halfway.left) after in
    let near = rest_all (λ l. x_on l.line p.y <ℤ p.x) old.before k.mid (subst (All (IsBefore p.x p.y)) k.before_is before) in
    let last : last_windings no_windings old.before ≡ w = goes.at.halfway.last ∙ sym same in
    let alike : left.runs ≡ Alike = settled same in
    let are : RunsAre takes p.y goes.x s.gone old.before (k.mid ++ new.after) ended w Alike
    = subst (λ (ls : List ActiveLine). RunsAre takes p.y goes.x s.gone old.before ls ended w Alike) k.after_is
    (subst (λ (r : Runs). RunsAre takes p.y goes.x s.gone old.before old.after ended w r) alike s.are) in
    let quiet = runs_quiet takes p.y goes.x s.gone old.before ended w may.nothing last p.x k.mid new.after are
    (subst (λ (ls : List ActiveLine). takes (last_windings w ls) ≡ false) k.after_is (shut_after takes p.y lines s.gone old.after w may s.split s.below_is))
    goes.up_to near after (subst (PassAtOrRight p.y goes.x) k.after_is goes.at.halfway.right)
    (subst (AscendIn (p.y -ℤ pos 1)) k.after_is goes.at.halfway.ascend_after)
    (no_meetings p.y p.x k.mid new.after (subst (MeetFrom p.y p.x) k.after_is goes.apart.1) near)
    (subst (AreOpened takes (takes w)) k.after_is (opened_after takes p.y lines s.gone old.after w may s.split s.below_is)) in
    let mid : last_windings no_windings new.before ≡ last_windings w k.mid
    = ap (last_windings no_windings) k.before_is ∙ (last_append no_windings old.before k.mid ∙ ap (λ (v : Windings). last_windings v k.mid) last) in
    subst (λ (r : Runs). RunsSoFar takes p.y p.x lines new.before new.after ended right.sides.below r) (sym (runs ∙ alike))
    (subst (λ (v : Windings). RunsSoFar takes p.y p.x lines new.before new.after ended v Alike) (sym (e ∙ mid))
    (subst (λ (ls : List ActiveLine). RunsSoFar takes p.y p.x lines ls new.after ended (last_windings w k.mid) Alike) (sym k.before_is)
    (record {
      gone = s.gone ++ k.mid;
      split = s.split ∙ (ap (λ (ls : List ActiveLine). s.gone ++ ls) k.after_is ∙ sym (append_assoc s.gone k.mid new.after));
      below_is = last_append no_windings s.gone k.mid ∙ ap (λ (v : Windings). last_windings v k.mid) s.below_is;
      are = quiet;
    })))
