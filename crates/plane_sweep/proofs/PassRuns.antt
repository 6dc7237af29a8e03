-- A point is passed: from the runs left of it to those right of it.
use Rattle.std.proofs.Common.{ℤ, pos, ◌+ℤ◌, ◌≡◌, Bool, true, false, List, [], ◌∷◌, ◌++◌, Option, Some, None, IfSome}
use Rattle.std.proofs.Common.{IfNone, All, is_some, refl, ap, sym, subst, ◌∙◌}
use Rattle.std.specs.Option.{option_to_list}
use Rattle.std.proofs.lemmas.List.Elements.{All-tail}
use Rattle.half_grid.specs.Trapezoids.{Trapezoid, IsShot}
use Rattle.half_grid.specs.declared.plane.Line.{Line}
use Rattle.trap_join.specs.declared.front.Growing.{Growing}
use Rattle.trap_join.specs.Fronts.{ended_at}
use Rattle.active_lines.specs.declared.item.ActiveLine.{ActiveLine}
use Rattle.active_lines.specs.declared.item.Opened.{Opened}
use Rattle.active_lines.specs.declared.item.Windings.{Windings}
use Rattle.row_lists.specs.RowLists.{AreAlike, no_windings}
use Rattle.row_lists.specs.RowRuns.{last_windings}
use Rattle.plane_sweep.specs.StopRuns.{growing_of, AreOpened, leaving_of, begins_at, opened_new}
use Rattle.plane_sweep.specs.Crossings.{IsCrossing, RunsAre, EnteredAre, LeaveApart, LeavesOn, EndsLines, after_of, settled_runs, runs_after}
use Rattle.plane_sweep.specs.declared.entry.Runs.{Runs}
use Rattle.plane_sweep.specs.declared.entry.Runs.TheVariants.{Alike, Apart}
use Rattle.plane_sweep.specs.declared.entry.Entered.{Entered}
use Rattle.plane_sweep.specs.declared.entry.Entered.TheVariants.{Together, Separate}
use Rattle.plane_sweep.proofs.Openings.{growing_append}
use Rattle.plane_sweep.proofs.OldLines.{leaving_kept}
use Rattle.plane_sweep.proofs.AlikeRuns.{alike_last}
use Rattle.plane_sweep.proofs.EndLemmas.{but_last}
use Rattle.plane_sweep.proofs.LeaveCases.{split, given_same, leave_together, leave_apart, leave_none, leave_on}

rest_all : (P : Growing → Type 0) (us vs : List Growing) → All P (us ++ vs) → All P vs
rest_all P [] vs h = h
rest_all P (u ∷ us) vs h = rest_all P us vs (All-tail P u (us ++ vs) h)

none_some : {P : Type 0} (o : Option Growing) (g : Growing) → o ≡ None → o ≡ Some g → P
none_some o g none some = absurd (let clash : ⊥ = cc in clash)

module _ (takes : Windings → Bool) (y x : ℤ) (below above : Windings) (gone before old new rest : List ActiveLine) (given given1 : List Trapezoid)
    (c : IsCrossing takes y x below above gone before old new rest) where
  abbrev Beyond : Option Opened → Runs → Type 0
  Beyond kept runs = RunsAre takes y (x +ℤ pos 1) (gone ++ old) (before ++ opened_new takes (takes above) y kept new) rest given1 (last_windings below old) runs

  shots_old : All (λ g. IsShot (ended_at y g)) (growing_of old)
  shots_old = rest_all (λ g. IsShot (ended_at y g)) (growing_of gone) (growing_of old)
      (subst (All (λ g. IsShot (ended_at y g))) (growing_append gone old) c.shots)

  settle_by : (after : Option Line) (taken : Bool) → taken ≡ takes (last_windings above new) → Beyond None (Apart after)
      → Beyond None (settled_runs taken after)
  settle_by (Some r) taken is s = s
  settle_by None true is s = s
  settle_by None false is s = leave_none takes y x below above gone before old new rest given c (takes above) None given1 None refl s (sym is)

  core : (entered : Entered) (kept : Option Opened) → EnteredAre takes y x gone before old new rest given below (takes above) entered
      → IfSome kept (LeavesOn (leaving_of takes None old) (begins_at takes (takes above) None new))
      → IfNone kept (LeaveApart (leaving_of takes None old) (begins_at takes (takes above) None new))
      → EndsLines y given old (is_some kept) given1
      → Beyond kept (runs_after entered (leaving_of takes None old) (is_some kept) (takes (last_windings above new)))
  core Together None e on apart ends =
      subst (λ (zs : List Trapezoid). RunsAre takes y (x +ℤ pos 1) (gone ++ old) (before ++ opened_new takes (takes above) y None new) rest zs
      (last_windings below old) Alike)
      (sym (given_same takes y x below above gone before old new rest given c e.2 e.3) ∙ sym (ends shots_old))
      (leave_together takes y x below above gone before old new rest given c None e)
  core Together (Some o) e on apart ends =
      none_some (leaving_of takes None old) on.c
      (leaving_kept takes None old rest e.3 (subst (λ (b : Bool). AreOpened takes b (old ++ rest)) e.2 c.opened)) on.leaving_is
  core (Separate right) None e on apart ends =
      settle_by (after_of right (leaving_of takes None old)) (takes (last_windings above new)) refl
      (subst
      (λ (zs : List Trapezoid). RunsAre takes y (x +ℤ pos 1) (gone ++ old) (before ++ opened_new takes (takes above) y None new) rest zs
      (last_windings below old)
      (Apart (after_of right (leaving_of takes None old))))
      (sym (ends shots_old)) (leave_apart takes y x below above gone before old new rest given c (takes above) right e apart))
  core (Separate right) (Some o) e on apart ends =
      let p = split takes y x below above gone before old new rest given c in
      let last = p.is ∙ ap (λ (l : Option Growing). p.inner ++ option_to_list l) on.leaving_is in
      let but = but_last y given given1 old ends.0 p.inner on.c ends.1 shots_old last in
      subst (λ (zs : List Trapezoid). RunsAre takes y (x +ℤ pos 1) (gone ++ old) (before ++ opened_new takes (takes above) y (Some o) new) rest zs
      (last_windings below old) Alike)
      (sym but.2) (leave_on takes y x below above gone before old new rest given c (takes above) right o but.0 e on but.1)

-- as the code does it
pub passed : (takes : Windings → Bool) (y x : ℤ) (below above : Windings) (gone before before1 old new rest opened : List ActiveLine)
    (given given1 : List Trapezoid) (entered : Entered)
    (leaving : Option Growing) (begun : Option ActiveLine) (kept : Option Opened) (inside goes_on taken : Bool)
    → IsCrossing takes y x below above gone before old new rest → AreAlike before before1
    → inside ≡ takes above → EnteredAre takes y x gone before1 old new rest given below inside entered → leaving ≡ leaving_of takes None old
    → begun ≡ begins_at takes inside None new
    → IfSome kept (LeavesOn leaving begun) → IfNone kept (LeaveApart leaving begun) → EndsLines y given old goes_on given1 → goes_on ≡ is_some kept
    → opened ≡ opened_new takes inside y kept new → taken ≡ takes (last_windings above new)
    → RunsAre takes y (x +ℤ pos 1) (gone ++ old) (before1 ++ opened) rest given1 (last_windings below old) (runs_after entered leaving goes_on taken)
passed takes y x below above gone before before1 old new rest opened given given1 entered leaving begun kept inside goes_on taken c alike is e leaves
    begins on apart ends goes puts takes_beyond =
    let c1 : IsCrossing takes y x below above gone before1 old new rest = record {
      nothing = c.nothing;
      above_is = sym (alike_last no_windings before before1 alike) ∙ c.above_is;
      shut = c.shut;
      opened = c.opened;
      old_at = c.old_at;
      old_ascend = c.old_ascend;
      right = c.right;
      new_at = c.new_at;
      new_ascend = c.new_ascend;
      shots = c.shots;
    } in
    let here = subst (λ (b : Bool). EnteredAre takes y x gone before1 old new rest given below b entered) is e in
    let from = begins ∙ ap (λ (b : Bool). begins_at takes b None new) is in
    let done = core takes y x below above gone before1 old new rest given given1 c1 entered kept here
    (subst (λ (l : Option Growing). IfSome kept (LeavesOn l (begins_at takes (takes above) None new))) leaves
    (subst (λ (b : Option ActiveLine). IfSome kept (LeavesOn leaving b)) from on))
    (subst (λ (l : Option Growing). IfNone kept (LeaveApart l (begins_at takes (takes above) None new))) leaves
    (subst (λ (b : Option ActiveLine). IfNone kept (LeaveApart leaving b)) from apart))
    (subst (λ (b : Bool). EndsLines y given old b given1) goes ends) in
    let list = puts ∙ ap (λ (b : Bool). opened_new takes b y kept new) is in
    let runs = ap (λ (l : Option Growing). runs_after entered l goes_on taken) leaves
    ∙ (ap (λ (b : Bool). runs_after entered (leaving_of takes None old) b taken) goes
    ∙ ap (λ (b : Bool). runs_after entered (leaving_of takes None old) (is_some kept) b) takes_beyond) in
    subst (λ (r : Runs). RunsAre takes y (x +ℤ pos 1) (gone ++ old) (before1 ++ opened) rest given1 (last_windings below old) r) (sym runs)
    (subst
    (λ (ls : List ActiveLine). RunsAre takes y (x +ℤ pos 1) (gone ++ old) (before1 ++ ls) rest given1 (last_windings below old)
    (runs_after entered (leaving_of takes None old) (is_some kept) (takes (last_windings above new))))
    (sym list) done)
