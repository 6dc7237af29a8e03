-- Over lines that stay at a stop the runs below and above remain the same.
use Rattle.std.proofs.Common.{ℤ, pos, ◌-ℤ◌, ◌≡◌, ◌≤ℤ◌, ◌<ℤ◌, Bool, false, List, [], ◌∷◌, ◌++◌, Option, Some, None}
use Rattle.std.proofs.Common.{IfSome, All, is_some, arith, refl, ap, sym, subst, ◌∙◌, inl, inr}
use Rattle.std.specs.Option.{option_to_list}
use Rattle.std.proofs.lemmas.Int.{ints, by_lt_z}
use Rattle.std.proofs.lemmas.List.Elements.{All-nil, All-cons, All-head, All-append, All-pop, All-weaker}
use Rattle.half_grid.specs.Lines.{x_on}
use Rattle.half_grid.specs.Rows.{place}
use Rattle.half_grid.specs.Trapezoids.{Trapezoid}
use Rattle.half_grid.specs.declared.plane.Line.{Line}
use Rattle.scan_line.specs.declared.runs.Run.{Run}
use Rattle.trap_join.specs.declared.front.Growing.{Growing}
use Rattle.active_lines.specs.Leaning.{MeetAbove}
use Rattle.active_lines.specs.declared.item.ActiveLine.{ActiveLine}
use Rattle.active_lines.specs.declared.item.Windings.{Windings}
use Rattle.active_lines.proofs.ForCallers.{leans_where_it_meets}
use Rattle.row_lists.specs.RowLists.{AscendIn, NoMeetings, no_windings}
use Rattle.row_lists.specs.RowRuns.{last_windings}
use Rattle.row_lists.specs.Halfway.{PassLeft, PassAtOrRight}
use Rattle.plane_sweep.specs.StopRuns.{growing_of, AreOpened, ended_runs, open_after}
use Rattle.plane_sweep.specs.States.{Stands, AreAlikeAt}
use Rattle.plane_sweep.proofs.Lefts.{growing_lefts, run_lefts}
use Rattle.plane_sweep.proofs.Openings.{growing_append}
use Rattle.plane_sweep.proofs.RunsAlong.{inside_after, inside_by_windings, open_inside, ended_append, open_append}
use Rattle.plane_sweep.proofs.SlabRuns.{top_order}
use Rattle.plane_sweep.proofs.Quiet.{AscendStrictly, StartsFrom, Passed, inside_of, quiet}

-- ---- lines that don't meet pass the stop apart

meet_above : (l m : Line) (y : ℤ) → place l (y -ℤ pos 1) <ℤ place m (y -ℤ pos 1) → x_on l y ≡ x_on m y → MeetAbove l m y
meet_above l m y lt at = record { closing = leans_where_it_meets l m (y -ℤ pos 1) y lt at (omega (arith, ints)); here = at }

pass_apart : (l m : Line) (y : ℤ) → place l (y -ℤ pos 1) <ℤ place m (y -ℤ pos 1) → (MeetAbove l m y → ⊥) → x_on l y <ℤ x_on m y
pass_apart l m y lt none =
    let le = top_order l m y lt in
    by_lt_z (x_on l y) (x_on m y) (λ k. k) (λ ge. absurd (none (meet_above l m y lt (omega (arith, ints, le, ge)))))

pub strictly : (y : ℤ) (mid : List ActiveLine) → AscendIn (y -ℤ pos 1) mid → NoMeetings mid (y -ℤ pos 1) y → AscendStrictly y mid
strictly y [] ascend none = tt
strictly y (l ∷ []) ascend none = (All-nil (λ m. x_on l.line y <ℤ x_on m.line y), tt)
strictly y (l ∷ m ∷ mid) ascend none =
    let near = All-head (λ k. place l.line (y -ℤ pos 1) <ℤ place k.line (y -ℤ pos 1)) m mid ascend.0 in
    let lt = pass_apart l.line m.line y near (λ meet. none y (omega (arith, ints)) (omega (arith, ints)) (inl meet)) in
    let rest = strictly y (m ∷ mid) ascend.1 (λ z low high s. none z low high (inr s)) in (
      All-cons (λ k. x_on l.line y <ℤ x_on k.line y) m mid lt
          (All-weaker (λ k. x_on m.line y <ℤ x_on k.line y) (λ k. x_on l.line y <ℤ x_on k.line y) (λ k q. omega (arith, ints, lt, q)) mid rest.0),
      rest,
    )

-- ---- whether a run is open

false_from : (takes : Windings → Bool) (lines : List ActiveLine) → takes no_windings ≡ false
    → takes (last_windings no_windings lines) ≡ inside_after takes false lines
false_from takes lines h = inside_by_windings takes no_windings lines ∙ ap (λ (b : Bool). inside_after takes b lines) h

-- a run is open after the lines exactly where the windings right of them are taken
pub open_is : (takes : Windings → Bool) (lines : List ActiveLine) (w : Windings) → takes no_windings ≡ false → last_windings no_windings lines ≡ w
    → is_some (open_after takes None lines) ≡ takes w
open_is takes lines w h e = open_inside takes None lines ∙ (sym (false_from takes lines h) ∙ ap takes e)

inside_is : (o : Option ActiveLine) → is_some o ≡ inside_of o
inside_is None = refl
inside_is (Some o) = refl

-- ---- further right

pub raise : (takes : Windings → Bool) (y x to : ℤ) (rest : List ActiveLine) (closed : List Growing) (runs : List Run) (fresh : List Growing)
    (given : List Trapezoid) (p : Option Growing)
    (o : Option ActiveLine) → Stands takes y x rest closed runs fresh given p o → All (λ g. x_on g.left y <ℤ to) closed → All (λ r. x_on r.left y <ℤ to) runs
    → IfSome p (λ g. x_on g.left y <ℤ to) → Stands takes y to rest closed runs fresh given p o
raise takes y x to rest closed runs fresh given None o s grow run left = record { settled = s.settled; at = s.at; grow = grow; run = run; pends = tt }
raise takes y x to rest closed runs fresh given (Some g) o s grow run left = record {
  settled = s.settled;
  at = s.at;
  grow = grow;
  run = run;
  pends = record { alone = s.pends.alone; left = left; from = s.pends.from; right = s.pends.right };
}

starts : (y x : ℤ) (mid rest : List ActiveLine) → PassAtOrRight y x (mid ++ rest) → StartsFrom y x mid
starts y x [] rest h = tt
starts y x (l ∷ mid) rest h = All-head (λ m. x ≤ℤ x_on m.line y) l (mid ++ rest) h

module _ (takes : Windings → Bool) (y x to : ℤ) (rest : List ActiveLine) (closed : List Growing) (runs : List Run) (fresh : List Growing)
    (given : List Trapezoid) (up : x ≤ℤ to) where
  pending_left : (p : Option Growing) (o : Option ActiveLine) → Stands takes y x rest closed runs fresh given p o
      → All (λ g. x_on g.left y <ℤ to) (option_to_list p)
  pending_left None o s = All-nil (λ g. x_on g.left y <ℤ to)
  pending_left (Some g) o s =
      let lt = s.pends.left in
      All-cons (λ k. x_on k.left y <ℤ to) g [] (omega (arith, ints, lt, up)) (All-nil (λ k. x_on k.left y <ℤ to))

  open_further : (p : Option Growing) (o : Option ActiveLine) → Stands takes y x rest closed runs fresh given p o → IfSome o (λ k. x_on k.line y <ℤ to)
  open_further None None s = tt
  open_further None (Some k) s = absurd s.at
  open_further (Some g) None s = absurd s.at
  open_further (Some g) (Some k) s =
      let lt = s.pends.left in
      let same = ap (λ (line : Line). x_on line y) s.at in
      omega (arith, ints, lt, up, same)

module _ (takes : Windings → Bool) (y x to : ℤ) (gone before mid rest : List ActiveLine) (given : List Trapezoid)
    (s : AreAlikeAt takes y x gone before (mid ++ rest) given)
    (up : x ≤ℤ to) (left : PassLeft y to mid) where
  module _ (q : Passed takes y mid rest s.closed (ended_runs takes None before) s.fresh given s.growing (open_after takes None before)) where
    lefts : All (λ g. x_on g.left y <ℤ to) q.closed_after × IfSome q.p_after (λ g. x_on g.left y <ℤ to)
    lefts =
        All-pop (λ g. x_on g.left y <ℤ to) ((s.closed ++ option_to_list s.growing) ++ growing_of mid) q.closed_after q.p_after q.gone
        (All-append (λ g. x_on g.left y <ℤ to) (s.closed ++ option_to_list s.growing) (growing_of mid)
        (All-append (λ g. x_on g.left y <ℤ to) s.closed (option_to_list s.growing)
        (All-weaker (λ g. x_on g.left y <ℤ x) (λ g. x_on g.left y <ℤ to) (λ g lt. omega (arith, ints, lt, up)) s.closed s.stands.grow)
        (pending_left takes y x to (mid ++ rest) s.closed (ended_runs takes None before) s.fresh given up s.growing (open_after takes None before) s.stands))
        (growing_lefts (λ line. x_on line y <ℤ to) mid left))

    run_left : All (λ r. x_on r.left y <ℤ to) (ended_runs takes None before ++ ended_runs takes (open_after takes None before) mid)
    run_left =
        All-append (λ r. x_on r.left y <ℤ to) (ended_runs takes None before) (ended_runs takes (open_after takes None before) mid)
        (All-weaker (λ r. x_on r.left y <ℤ x) (λ r. x_on r.left y <ℤ to) (λ r lt. omega (arith, ints, lt, up)) (ended_runs takes None before) s.stands.run)
        (run_lefts (λ line. x_on line y <ℤ to) takes mid (open_after takes None before)
        (open_further takes y x to (mid ++ rest) s.closed (ended_runs takes None before) s.fresh given up s.growing
        (open_after takes None before) s.stands) left)

    raised : Stands takes y to rest q.closed_after (ended_runs takes None before ++ ended_runs takes (open_after takes None before) mid) q.fresh_after
        given q.p_after
        (open_after takes (open_after takes None before) mid)
    raised =
        raise takes y q.x to rest q.closed_after (ended_runs takes None before ++ ended_runs takes (open_after takes None before) mid) q.fresh_after given
        q.p_after
        (open_after takes (open_after takes None before) mid) q.stands lefts.0 run_left lefts.1

    passed_alike : AreAlikeAt takes y to (gone ++ mid) (before ++ mid) rest given
    passed_alike = record {
      closed = q.closed_after;
      fresh = q.fresh_after;
      growing = q.p_after;
      stands = subst (λ (rs : List Run). Stands takes y to rest q.closed_after rs q.fresh_after given q.p_after (open_after takes None (before ++ mid)))
          (sym (ended_append takes None before mid))
          (subst (λ (o : Option ActiveLine). Stands takes y to rest q.closed_after
          (ended_runs takes None before ++ ended_runs takes (open_after takes None before) mid) q.fresh_after given q.p_after o)
          (sym (open_append takes None before mid)) raised);
      gone_is = growing_append gone mid ∙ (ap (λ (us : List Growing). us ++ growing_of mid) s.gone_is ∙ q.gone);
      before_is = growing_append before mid ∙ (ap (λ (us : List Growing). us ++ growing_of mid) s.before_is ∙ q.before);
    }

  -- they are the same after the lines
  pub quiet_alike : (w : Windings) → takes no_windings ≡ false → last_windings no_windings before ≡ w → AscendIn (y -ℤ pos 1) mid
      → NoMeetings mid (y -ℤ pos 1) y
      → PassAtOrRight y x (mid ++ rest) → AreOpened takes (takes w) (mid ++ rest) → AreAlikeAt takes y to (gone ++ mid) (before ++ mid) rest given
  quiet_alike w nothing last ascend none right opened =
      let inside = sym (open_is takes before w nothing last) ∙ inside_is (open_after takes None before) in
      passed_alike (quiet takes y given mid rest x s.closed (ended_runs takes None before) s.fresh s.growing (open_after takes None before)
      (strictly y mid ascend none) s.stands
      (subst (λ (b : Bool). AreOpened takes b (mid ++ rest)) inside opened) (starts y x mid rest right))
