-- The runs on the way over a stop: at a point, and over a line that is passed alone.
use Rattle.std.proofs.Common.{ℤ, pos, ◌+ℤ◌, ◌-ℤ◌, ◌≡◌, ◌≤ℤ◌, ◌<ℤ◌, Bool, true, false, List, [], ◌∷◌, ◌++◌, None, All, append_assoc}
use Rattle.std.proofs.Common.{arith, refl, ap, sym, subst, ◌∙◌}
use Rattle.std.proofs.lemmas.Int.{ints}
use Rattle.std.proofs.lemmas.List.Elements.{All-nil, All-cons, All-head, All-tail}
use Rattle.half_grid.specs.Edges.{EdgeParts}
use Rattle.half_grid.specs.Lines.{x_on}
use Rattle.half_grid.specs.Rows.{place}
use Rattle.half_grid.specs.Trapezoids.{Trapezoid, IsShot}
use Rattle.half_grid.specs.declared.plane.Line.{Line}
use Rattle.trap_join.specs.declared.front.Growing.{Growing}
use Rattle.trap_join.specs.Fronts.{ended_at}
use Rattle.active_lines.specs.declared.item.ActiveLine.{ActiveLine}
use Rattle.active_lines.specs.declared.item.Windings.{Windings}
use Rattle.row_lists.specs.declared.event.Event.{Event}
use Rattle.row_lists.specs.RowLists.{AscendIn, no_windings}
use Rattle.row_lists.specs.RowRuns.{last_windings}
use Rattle.row_lists.specs.Halfway.{PassAt, PassAtOrRight}
use Rattle.row_lists.proofs.ForCallers.{last_append}
use Rattle.plane_sweep.specs.StopRuns.{growing_of, AreOpened}
use Rattle.plane_sweep.specs.RuleTests.{IsTest}
use Rattle.plane_sweep.specs.Crossings.{IsCrossing, RunsAre}
use Rattle.plane_sweep.specs.Stops.{IsAt, IsAlone, PassesLines}
use Rattle.plane_sweep.specs.WayRuns.{MayPass, RunsSoFar, PassesOver}
use Rattle.plane_sweep.specs.declared.entry.Runs.{Runs}
use Rattle.plane_sweep.specs.declared.point.Front.{Front}
use Rattle.plane_sweep.proofs.Openings.{growing_append}
use Rattle.plane_sweep.proofs.RunsAlong.{inside_after, inside_by_windings}
use Rattle.plane_sweep.proofs.RunsFurther.{runs_further}
use Rattle.plane_sweep.proofs.StopLemmas.{below_ascend, rest_right, right}

-- ---- what the lines to come have open

pub opened_rest : (takes : Windings → Bool) (inside : Bool) (xs ys : List ActiveLine) → AreOpened takes inside (xs ++ ys)
    → AreOpened takes (inside_after takes inside xs) ys
opened_rest takes inside [] ys h = h
opened_rest takes true (l ∷ xs) ys h = opened_rest takes (takes l.windings) xs ys h.1
opened_rest takes false (l ∷ xs) ys h = opened_rest takes (takes l.windings) xs ys h.1

first_growing : (P : Growing → Type 0) (us vs : List Growing) → All P (us ++ vs) → All P us
first_growing P [] vs h = All-nil P
first_growing P (u ∷ us) vs h = All-cons P u us (All-head P u (us ++ vs) h) (first_growing P us vs (All-tail P u (us ++ vs) h))

module _ (takes : Windings → Bool) (y : ℤ) (lines gone after : List ActiveLine) (below : Windings) (may : MayPass takes y lines) (split : lines ≡ gone ++ after)
    (below_is : last_windings no_windings gone ≡ below) where
  pub shut_after : takes (last_windings below after) ≡ false
  shut_after =
      ap (λ (w : Windings). takes (last_windings w after)) (sym below_is)
      ∙ (ap takes (sym (last_append no_windings gone after)) ∙ (ap (λ (ls : List ActiveLine). takes (last_windings no_windings ls)) (sym split) ∙ may.shut))

  inside_is : inside_after takes false gone ≡ takes below
  inside_is = ap (λ (b : Bool). inside_after takes b gone) (sym may.nothing) ∙ (sym (inside_by_windings takes no_windings gone) ∙ ap takes below_is)

  pub opened_after : AreOpened takes (takes below) after
  opened_after =
      subst (λ (b : Bool). AreOpened takes b after) inside_is
      (opened_rest takes false gone after (subst (AreOpened takes false) split may.opened))

  pub shots_gone : All (λ g. IsShot (ended_at y g)) (growing_of gone)
  shots_gone =
      first_growing (λ g. IsShot (ended_at y g)) (growing_of gone) (growing_of after)
      (subst (All (λ g. IsShot (ended_at y g))) (ap growing_of split ∙ growing_append gone after) may.shots)

-- ---- at a point

module _ (takes : Windings → Bool) (y x : ℤ) (lines before after old rest : List ActiveLine) (ended : List Trapezoid) (below above : Windings) (runs : Runs)
    (may : MayPass takes y lines) (s : RunsSoFar takes y x lines before after ended below runs) (split : after ≡ old ++ rest) where
  all_is : lines ≡ (s.gone ++ old) ++ rest
  all_is = s.split ∙ (ap (λ (ls : List ActiveLine). s.gone ++ ls) split ∙ sym (append_assoc s.gone old rest))

  below_old : last_windings no_windings (s.gone ++ old) ≡ last_windings below old
  below_old = last_append no_windings s.gone old ∙ ap (λ (w : Windings). last_windings w old) s.below_is

  module _ (new : List ActiveLine) (ascend : AscendIn (y -ℤ pos 1) after) (above_is : last_windings no_windings before ≡ above) (old_at : PassAt y x old)
      (beyond : PassAtOrRight y (x +ℤ pos 1) rest) (new_at : PassAt y x new) (new_ascend : AscendIn y new) where
    crossing : IsCrossing takes y x below above s.gone before old new rest
    crossing = record {
      nothing = may.nothing;
      above_is = above_is;
      shut = ap (λ (ls : List ActiveLine). takes (last_windings below ls)) (sym split) ∙ shut_after takes y lines s.gone after below may s.split s.below_is;
      opened = subst (AreOpened takes (takes below)) split (opened_after takes y lines s.gone after below may s.split s.below_is);
      old_at = old_at;
      old_ascend = subst (AscendIn (y -ℤ pos 1)) split ascend;
      right = beyond;
      new_at = new_at;
      new_ascend = new_ascend;
      shots = shots_gone takes y lines (s.gone ++ old) rest (last_windings below old) may all_is below_old;
    }

    pub crossed : (beyond_is : Windings) (before1 : List ActiveLine) (ended1 : List Trapezoid) (runs1 : Runs) → beyond_is ≡ last_windings above new
        → ((gone : List ActiveLine) → IsCrossing takes y x below above gone before old new rest → beyond_is ≡ last_windings above new
        → RunsAre takes y x gone before (old ++ rest) ended below runs
        → RunsAre takes y (x +ℤ pos 1) (gone ++ old) before1 rest ended1 (last_windings below old) runs1)
        → RunsSoFar takes y (x +ℤ pos 1) lines before1 rest ended1 (last_windings below old) runs1
    crossed beyond_is before1 ended1 runs1 last passes = record {
      gone = s.gone ++ old;
      split = all_is;
      below_is = below_old;
      are = passes s.gone crossing last (subst (λ (ls : List ActiveLine). RunsAre takes y x s.gone before ls ended below runs) split s.are);
    }

-- with the lists and the windings as the code has them
pub same_runs : (takes : Windings → Bool) (y x : ℤ) (lines before before1 after after1 : List ActiveLine) (ended ended1 : List Trapezoid)
    (below below1 : Windings) (runs : Runs) → before1 ≡ before → after1 ≡ after → ended1 ≡ ended → below1 ≡ below
    → RunsSoFar takes y x lines before after ended below runs → RunsSoFar takes y x lines before1 after1 ended1 below1 runs
same_runs takes y x lines before before1 after after1 ended ended1 below below1 runs e f g h s =
    subst (λ (ls : List ActiveLine). RunsSoFar takes y x lines ls after1 ended1 below1 runs) (sym e)
    (subst (λ (ls : List ActiveLine). RunsSoFar takes y x lines before ls ended1 below1 runs) (sym f)
    (subst (λ (zs : List Trapezoid). RunsSoFar takes y x lines before after zs below1 runs) (sym g)
    (subst (λ (w : Windings). RunsSoFar takes y x lines before after ended w runs) (sym h) s)))

pub crossed_point : (takes : Windings → Bool) (post : ℤ → ℤ → Bool → Type 0) (edges : List EdgeParts) (y x : ℤ) (below above beneath beyond : Windings)
    (events : List Event) (lines after : List ActiveLine) (front front1 : Front) (runs runs1 : Runs) → IsTest post takes → MayPass takes y lines
    → IsAt edges y x below above front.lines.before after events → RunsSoFar takes y x lines front.lines.before after front.ended.items below runs
    → PassesLines y x after front.below.items front.lines.after → PassAt y x front.above.items → AscendIn y front.above.items
    → beneath ≡ last_windings below front.below.items → beyond ≡ last_windings above front.above.items
    → PassesOver post y above beyond runs front front1 runs1
    → RunsSoFar takes y (x +ℤ pos 1) lines (front1.lines.before ++ front1.opened.items) front.lines.after front1.ended.items beneath runs1
crossed_point takes post edges y x below above beneath beyond events lines after front front1 runs runs1 test may at s passes new_at new_ascend beneath_is
    beyond_is over =
    let list = front1.lines.before ++ front1.opened.items in
    subst (λ (w : Windings). RunsSoFar takes y (x +ℤ pos 1) lines list front.lines.after front1.ended.items w runs1) (sym beneath_is)
    (crossed takes y x lines front.lines.before after front.below.items front.lines.after front.ended.items below above runs may s passes.split
    front.above.items at.halfway.ascend_after at.halfway.last passes.at
    (right edges y x below above front.lines.before after events at front.below.items front.lines.after passes) new_at new_ascend
    beyond list front1.ended.items runs1 beyond_is (λ gone crossing last are. over takes x below gone front.lines.after test crossing last are))

-- ---- over a line

module _ (edges : List EdgeParts) (y x : ℤ) (below above : Windings) (before rest : List ActiveLine) (l : ActiveLine) (events : List Event)
    (at : IsAt edges y x below above before (l ∷ rest) events) (alone : IsAlone y l.line rest events) where
  from : x ≤ℤ x_on l.line y
  from = All-head (λ m. x ≤ℤ x_on m.line y) l rest at.halfway.right

  all_right : PassAtOrRight y (x_on l.line y) (l ∷ rest)
  all_right = All-cons (λ m. x_on l.line y ≤ℤ x_on m.line y) l rest (omega (arith, ints)) (below_ascend y (l ∷ rest) at.halfway.ascend_after).0

  over_rest : PassAtOrRight y (x_on l.line y +ℤ pos 1) rest
  over_rest = rest_right y (x_on l.line y) rest (All-tail (λ m. x_on l.line y ≤ℤ x_on m.line y) l rest all_right) at.halfway.ascend_after.1 alone.beside

  here : (m : ActiveLine) → m.line ≡ l.line → PassAt y (x_on l.line y) (m ∷ [])
  here m e = All-cons (λ k. x_on k.line y ≡ x_on l.line y) m [] (ap (λ (k : Line). x_on k y) e) (All-nil (λ k. x_on k.line y ≡ x_on l.line y))

  pub crossed_line : (takes : Windings → Bool) (beyond : Windings) (lines before1 : List ActiveLine) (m : ActiveLine) (ended ended1 : List Trapezoid)
      (runs runs1 : Runs) → MayPass takes y lines → RunsSoFar takes y x lines before (l ∷ rest) ended below runs → m.line ≡ l.line → beyond ≡ m.windings
      → ((gone : List ActiveLine) → IsCrossing takes y (x_on l.line y) below above gone before (l ∷ []) (m ∷ []) rest → beyond ≡ m.windings
      → RunsAre takes y (x_on l.line y) gone before (l ∷ rest) ended below runs
      → RunsAre takes y (x_on l.line y +ℤ pos 1) (gone ++ l ∷ []) before1 rest ended1 l.windings runs1)
      → RunsSoFar takes y (x_on l.line y +ℤ pos 1) lines before1 rest ended1 l.windings runs1
  crossed_line takes beyond lines before1 m ended ended1 runs runs1 may s line last passes =
      let near : RunsSoFar takes y (x_on l.line y) lines before (l ∷ rest) ended below runs = record {
        gone = s.gone;
        split = s.split;
        below_is = s.below_is;
        are = runs_further takes y x (x_on l.line y) from (l ∷ rest) all_right below
            (shut_after takes y lines s.gone (l ∷ rest) below may s.split s.below_is) s.gone before ended runs s.are;
      } in
      crossed takes y (x_on l.line y) lines before (l ∷ rest) (l ∷ []) rest ended below above runs may near refl (m ∷ []) at.halfway.ascend_after
      at.halfway.last (here l refl) over_rest (here m line) (All-nil (λ k. place m.line y <ℤ place k.line y), tt) beyond before1 ended1 runs1 last passes

-- as the code notes it
pub crossed_noted : (takes : Windings → Bool) (post : ℤ → ℤ → Bool → Type 0) (edges : List EdgeParts) (y x : ℤ) (below above w : Windings)
    (events : List Event) (lines rest : List ActiveLine) (l : ActiveLine) (front front1 : Front) (runs runs1 : Runs) → IsTest post takes
    → MayPass takes y lines → IsAt edges y x below above front.lines.before (l ∷ rest) events → IsAlone y l.line rest events
    → RunsSoFar takes y x lines front.lines.before (l ∷ rest) front.ended.items below runs → front.below.items ≡ l ∷ []
    → front.above.items ≡ (record { line = l.line; windings = w; opened = None }) ∷ [] → PassesOver post y above w runs front front1 runs1
    → RunsSoFar takes y (x_on l.line y +ℤ pos 1) lines (front1.lines.before ++ front1.opened.items) rest front1.ended.items l.windings runs1
crossed_noted takes post edges y x below above w events lines rest l front front1 runs runs1 test may at alone s under over passes =
    let m : ActiveLine = record { line = l.line; windings = w; opened = None } in
    let before = front.lines.before in
    let list = front1.lines.before ++ front1.opened.items in
    let z = x_on l.line y in
    crossed_line edges y x below above before rest l events at alone takes w lines list m front.ended.items front1.ended.items runs runs1
    may s refl refl (λ gone crossing last are.
    subst (λ (ls : List ActiveLine). RunsAre takes y (z +ℤ pos 1) (gone ++ ls) list rest front1.ended.items (last_windings below ls) runs1) under
    (passes takes z below gone rest test
    (subst (λ (ls : List ActiveLine). IsCrossing takes y z below above gone before ls front.above.items rest) (sym under)
    (subst (λ (ls : List ActiveLine). IsCrossing takes y z below above gone before (l ∷ []) ls rest) (sym over) crossing))
    (last ∙ ap (last_windings above) (sym over))
    (subst (λ (ls : List ActiveLine). RunsAre takes y z gone before (ls ++ rest) front.ended.items below runs) (sym under) are)))
