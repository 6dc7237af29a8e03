-- Over lines that stay as they are at a stop each growing trapezoid goes on in the run that it has.
use Rattle.std.proofs.Common.{ℤ, pos, ◌+ℤ◌, ◌≡◌, ◌≢◌, ◌≤ℤ◌, ◌<ℤ◌, Bool, true, false, List, [], ◌∷◌, ◌++◌, Option, Some}
use Rattle.std.proofs.Common.{None, All, append-nil, append_assoc, arith, refl, ap, sym, subst, ◌∙◌}
use Rattle.std.specs.Option.{option_to_list}
use Rattle.std.proofs.lemmas.Int.{ints}
use Rattle.std.proofs.lemmas.List.Elements.{All-nil, All-cons, All-head, All-append, All-weaker}
use Rattle.half_grid.specs.Lines.{x_on}
use Rattle.half_grid.specs.Trapezoids.{Trapezoid}
use Rattle.half_grid.specs.declared.plane.Line.{Line}
use Rattle.scan_line.specs.declared.runs.Run.{Run}
use Rattle.trap_join.specs.declared.front.Growing.{Growing}
use Rattle.active_lines.specs.declared.item.ActiveLine.{ActiveLine}
use Rattle.active_lines.specs.declared.item.Opened.{Opened}
use Rattle.active_lines.specs.declared.item.Windings.{Windings}
use Rattle.row_lists.specs.RowRuns.{end_of}
use Rattle.plane_sweep.specs.StopRuns.{growing_of, growing_by, AreOpened, ended_runs, open_after}
use Rattle.plane_sweep.specs.States.{Stands}
use Rattle.plane_sweep.proofs.PointSteps.{entering_goes_on}

-- at the stop each line passes left of all that follow
abbrev pub AscendStrictly : ℤ → List ActiveLine → Type 0
AscendStrictly y [] = Unit {0}
AscendStrictly y (l ∷ lines) = All (λ m. x_on l.line y <ℤ x_on m.line y) lines × AscendStrictly y lines

abbrev pub inside_of : Option ActiveLine → Bool
inside_of None = false
inside_of (Some o) = true

-- the first of the lines passes at x or right of it
abbrev pub StartsFrom : ℤ → ℤ → List ActiveLine → Type 0
StartsFrom y x [] = Unit {0}
StartsFrom y x (l ∷ lines) = x ≤ℤ x_on l.line y

-- what stands after the lines
pub record Passed (takes : Windings → Bool) (y : ℤ) (mid rest : List ActiveLine) (closed : List Growing)
    (runs : List Run) (fresh : List Growing) (given : List Trapezoid)
    (p : Option Growing) (o : Option ActiveLine) : Type 0 where
  pub x : ℤ
  pub closed_after : List Growing
  pub fresh_after : List Growing
  pub p_after : Option Growing
  pub stands : Stands takes y x rest closed_after (runs ++ ended_runs takes o mid) fresh_after given p_after (open_after takes o mid)
  pub gone : (closed ++ option_to_list p) ++ growing_of mid ≡ closed_after ++ option_to_list p_after
  pub before : (fresh ++ option_to_list p) ++ growing_of mid ≡ fresh_after ++ option_to_list p_after

module _ (takes : Windings → Bool) (y : ℤ) (given : List Trapezoid) where
  elsewhere_grow : (x : ℤ) (line : Line) (closed : List Growing) → All (λ g. x_on g.left y <ℤ x) closed → x ≤ℤ x_on line y → All (λ g. g.left ≢ line) closed
  elsewhere_grow x line closed h le =
      All-weaker (λ g. x_on g.left y <ℤ x) (λ g. g.left ≢ line)
      (λ g lt e. (let same = ap (λ (k : Line). x_on k y) e in absurd (omega (arith, ints, lt, le, same)))) closed h

  elsewhere_run : (x : ℤ) (line : Line) (runs : List Run) → All (λ r. x_on r.left y <ℤ x) runs → x ≤ℤ x_on line y → All (λ r. r.left ≢ line) runs
  elsewhere_run x line runs h le =
      All-weaker (λ r. x_on r.left y <ℤ x) (λ r. r.left ≢ line)
      (λ r lt e. (let same = ap (λ (k : Line). x_on k y) e in absurd (omega (arith, ints, lt, le, same)))) runs h

  -- the number right of a line that the next ones start from
  next_x : Line → ℤ
  next_x line = x_on line y +ℤ pos 1

  further_grow : (x z : ℤ) (closed : List Growing) → x ≤ℤ z → All (λ g. x_on g.left y <ℤ x) closed → All (λ g. x_on g.left y <ℤ z) closed
  further_grow x z closed le h = All-weaker (λ g. x_on g.left y <ℤ x) (λ g. x_on g.left y <ℤ z) (λ g lt. omega (arith, ints, lt, le)) closed h

  further_run : (x z : ℤ) (runs : List Run) → x ≤ℤ z → All (λ r. x_on r.left y <ℤ x) runs → All (λ r. x_on r.left y <ℤ z) runs
  further_run x z runs le h = All-weaker (λ r. x_on r.left y <ℤ x) (λ r. x_on r.left y <ℤ z) (λ r lt. omega (arith, ints, lt, le)) runs h

  starts_after : (l : ActiveLine) (mid : List ActiveLine) → All (λ m. x_on l.line y <ℤ x_on m.line y) mid → StartsFrom y (next_x l.line) mid
  unfolding next_x
  starts_after l [] h = tt
  starts_after l (m ∷ mid) h = let lt = All-head (λ k. x_on l.line y <ℤ x_on k.line y) m mid h in omega (arith, ints, lt)

  shut_line : (l : ActiveLine) (mid : List ActiveLine) → l.opened ≡ None → growing_of (l ∷ mid) ≡ growing_of mid
  shut_line l mid e = ap (λ (o : Option Opened). growing_by l.line o (growing_of mid)) e

  -- ---- no lines

  none_passed : (x : ℤ) (rest : List ActiveLine) (closed : List Growing) (runs : List Run) (fresh : List Growing) (p : Option Growing) (o : Option ActiveLine)
      → Stands takes y x rest closed runs fresh given p o → Passed takes y [] rest closed runs fresh given p o
  none_passed x rest closed runs fresh p o s = record {
    x = x;
    closed_after = closed;
    fresh_after = fresh;
    p_after = p;
    stands = subst (λ (rs : List Run). Stands takes y x rest closed rs fresh given p o) (sym (append-nil runs)) s;
    gone = append-nil (closed ++ option_to_list p);
    before = append-nil (fresh ++ option_to_list p);
  }

  -- ---- a line at which nothing begins or ends

  skip : (l : ActiveLine) (mid rest : List ActiveLine) (closed : List Growing) (runs : List Run) (fresh : List Growing)
      (p : Option Growing) (o o' : Option ActiveLine) → l.opened ≡ None
      → ended_runs takes o (l ∷ mid) ≡ ended_runs takes o' mid → open_after takes o (l ∷ mid) ≡ open_after takes o' mid
      → Passed takes y mid rest closed runs fresh given p o' → Passed takes y (l ∷ mid) rest closed runs fresh given p o
  skip l mid rest closed runs fresh p o o' e same after q = record {
    x = q.x;
    closed_after = q.closed_after;
    fresh_after = q.fresh_after;
    p_after = q.p_after;
    stands = subst (λ (rs : List Run). Stands takes y q.x rest q.closed_after
        (runs ++ rs) q.fresh_after given q.p_after (open_after takes o (l ∷ mid))) (sym same)
        (subst (λ (k : Option ActiveLine). Stands takes y q.x rest q.closed_after
        (runs ++ ended_runs takes o' mid) q.fresh_after given q.p_after k) (sym after) q.stands);
    gone = ap (λ (us : List Growing). (closed ++ option_to_list p) ++ us) (shut_line l mid e) ∙ q.gone;
    before = ap (λ (us : List Growing). (fresh ++ option_to_list p) ++ us) (shut_line l mid e) ∙ q.before;
  }

  -- ---- one line further

  further : (l : ActiveLine) (x : ℤ) → x ≤ℤ x_on l.line y → x ≤ℤ next_x l.line
  unfolding next_x
  further l x le = omega (arith, ints, le)

  just_left : (line : Line) (x : ℤ) → x_on line y <ℤ next_x line
  unfolding next_x
  just_left line x = omega (arith, ints)

  -- no run is open, and none begins
  stays_none : (l : ActiveLine) (x : ℤ) (rest others : List ActiveLine) (closed : List Growing) (runs : List Run) (fresh : List Growing) → x ≤ℤ x_on l.line y
      → Stands takes y x others closed runs fresh given None None → Stands takes y (next_x l.line) rest closed runs fresh given None None
  stays_none l x rest others closed runs fresh le s = record {
    settled = s.settled;
    at = tt;
    grow = further_grow x (next_x l.line) closed (further l x le) s.grow;
    run = further_run x (next_x l.line) runs (further l x le) s.run;
    pends = tt;
  }

  -- a run goes on
  stays_open : (l : ActiveLine) (x : ℤ) (lines : List ActiveLine) (closed : List Growing) (runs : List Run)
      (fresh : List Growing) (g : Growing) (o : ActiveLine) → takes l.windings ≡ true
      → x ≤ℤ x_on l.line y → Stands takes y x (l ∷ lines) closed runs fresh given (Some g) (Some o)
      → Stands takes y (next_x l.line) lines closed runs fresh given (Some g) (Some o)
  stays_open l x lines closed runs fresh g o e le s =
      let more = further l x le in
      let lt = s.pends.left in
      record {
        settled = s.settled;
        at = s.at;
        grow = further_grow x (next_x l.line) closed more s.grow;
        run = further_run x (next_x l.line) runs more s.run;
        pends = record {
          alone = s.pends.alone;
          left = omega (arith, ints, lt, more);
          from = l.line;
          right = s.pends.right ∙ passes s.pends.from;
        };
      }
    where
      passes : (k : Line) → end_of takes k (l ∷ lines) ≡ end_of takes l.line lines
      passes k = rw e refl

  -- a run begins
  begins : (l : ActiveLine) (x : ℤ) (lines : List ActiveLine) (closed : List Growing) (runs : List Run)
      (fresh : List Growing) (g : Growing) → g.left ≡ l.line → g.right ≡ end_of takes l.line lines
      → x ≤ℤ x_on l.line y → Stands takes y x (l ∷ lines) closed runs fresh given None None
      → Stands takes y (next_x l.line) lines closed runs fresh given (Some g) (Some l)
  begins l x lines closed runs fresh g left right le s =
      let more = further l x le in
      let here : x ≤ℤ x_on g.left y = subst (λ (k : Line). x ≤ℤ x_on k y) (sym left) le in
      record {
        settled = s.settled;
        at = left;
        grow = further_grow x (next_x l.line) closed more s.grow;
        run = further_run x (next_x l.line) runs more s.run;
        pends = record {
          alone = record { grow_elsewhere = elsewhere_grow x g.left closed s.grow here; run_elsewhere = elsewhere_run x g.left runs s.run here };
          left = subst (λ (k : Line). x_on k y <ℤ next_x l.line) (sym left) (just_left l.line x);
          from = l.line;
          right = right;
        };
      }

  begin_passed : (l : ActiveLine) (mid rest : List ActiveLine) (closed : List Growing) (runs : List Run)
      (fresh : List Growing) (g : Growing) → takes l.windings ≡ true
      → growing_of (l ∷ mid) ≡ g ∷ growing_of mid → Passed takes y mid rest closed runs fresh given (Some g) (Some l)
      → Passed takes y (l ∷ mid) rest closed runs fresh given None None
  begin_passed l mid rest closed runs fresh g e is q = record {
    x = q.x;
    closed_after = q.closed_after;
    fresh_after = q.fresh_after;
    p_after = q.p_after;
    stands = subst (λ (rs : List Run). Stands takes y q.x rest q.closed_after
        (runs ++ rs) q.fresh_after given q.p_after (open_after takes None (l ∷ mid))) (same_runs e)
        (subst (λ (k : Option ActiveLine). Stands takes y q.x rest q.closed_after
        (runs ++ ended_runs takes (Some l) mid) q.fresh_after given q.p_after k) (same_open e) q.stands);
    gone = moved closed ∙ q.gone;
    before = moved fresh ∙ q.before;
  }
    where
      same_runs : takes l.windings ≡ true → ended_runs takes (Some l) mid ≡ ended_runs takes None (l ∷ mid)
      same_runs e = rw e refl

      same_open : takes l.windings ≡ true → open_after takes (Some l) mid ≡ open_after takes None (l ∷ mid)
      same_open e = rw e refl

      moved : (us : List Growing) → (us ++ []) ++ growing_of (l ∷ mid) ≡ (us ++ g ∷ []) ++ growing_of mid
      moved us =
          ap (λ (vs : List Growing). vs ++ growing_of (l ∷ mid)) (append-nil us)
          ∙ (ap (λ (vs : List Growing). us ++ vs) is ∙ sym (append_assoc us (g ∷ []) (growing_of mid)))

  -- a run ends: the trapezoid goes on in it
  ends : (l : ActiveLine) (x : ℤ) (lines : List ActiveLine) (closed : List Growing) (runs : List Run)
      (fresh : List Growing) (g : Growing) (o : ActiveLine) → takes l.windings ≡ false
      → x ≤ℤ x_on l.line y → Stands takes y x (l ∷ lines) closed runs fresh given (Some g) (Some o)
      → Stands takes y (next_x l.line) lines (closed ++ g ∷ [])
      (runs ++ (record { left = o.line; right = l.line; a = o.windings.a; b = o.windings.b }) ∷ [])
      (fresh ++ g ∷ []) given None None
  ends l x lines closed runs fresh g o e le s =
      let r : Run = record { left = o.line; right = l.line; a = o.windings.a; b = o.windings.b } in
      let more = further l x le in
      let lt = s.pends.left in
      let here : x_on g.left y <ℤ next_x l.line = omega (arith, ints, lt, more) in
      record {
        settled = entering_goes_on y closed runs fresh given g r s.settled s.pends.alone s.at (s.pends.right ∙ stops s.pends.from);
        at = tt;
        grow = All-append (λ p. x_on p.left y <ℤ next_x l.line) closed (g ∷ []) (further_grow x (next_x l.line) closed more s.grow)
            (All-cons (λ p. x_on p.left y <ℤ next_x l.line) g [] here (All-nil (λ p. x_on p.left y <ℤ next_x l.line)));
        run = All-append (λ p. x_on p.left y <ℤ next_x l.line) runs (r ∷ []) (further_run x (next_x l.line) runs more s.run)
            (All-cons (λ p. x_on p.left y <ℤ next_x l.line) r []
            (subst (λ (k : Line). x_on k y <ℤ next_x l.line) s.at here)
            (All-nil (λ p. x_on p.left y <ℤ next_x l.line)));
        pends = tt;
      }
    where
      stops : (k : Line) → end_of takes k (l ∷ lines) ≡ l.line
      stops k = rw e refl

  end_passed : (l : ActiveLine) (mid rest : List ActiveLine) (closed : List Growing) (runs : List Run)
      (fresh : List Growing) (g : Growing) (o : ActiveLine) → takes l.windings ≡ false → l.opened ≡ None
      → Passed takes y mid rest (closed ++ g ∷ [])
      (runs ++ (record { left = o.line; right = l.line; a = o.windings.a; b = o.windings.b }) ∷ [])
      (fresh ++ g ∷ []) given None None
      → Passed takes y (l ∷ mid) rest closed runs fresh given (Some g) (Some o)
  end_passed l mid rest closed runs fresh g o e shut q = record {
    x = q.x;
    closed_after = q.closed_after;
    fresh_after = q.fresh_after;
    p_after = q.p_after;
    stands = subst (λ (rs : List Run). Stands takes y q.x rest q.closed_after rs q.fresh_after given q.p_after
        (open_after takes (Some o) (l ∷ mid))) (same_runs e)
        (subst (λ (k : Option ActiveLine). Stands takes y q.x rest q.closed_after
        ((runs ++ r ∷ []) ++ ended_runs takes None mid) q.fresh_after given q.p_after k) (same_open e) q.stands);
    gone = moved closed ∙ q.gone;
    before = moved fresh ∙ q.before;
  }
    where
      r : Run
      r = record { left = o.line; right = l.line; a = o.windings.a; b = o.windings.b }

      same_runs : takes l.windings ≡ false
          → (runs ++ (record { left = o.line; right = l.line; a = o.windings.a; b = o.windings.b }) ∷ [])
          ++ ended_runs takes None mid ≡ runs ++ ended_runs takes (Some o) (l ∷ mid)
      same_runs e = rw e (append_assoc runs ((record { left = o.line; right = l.line; a = o.windings.a; b = o.windings.b }) ∷ []) (ended_runs takes None mid))

      same_open : takes l.windings ≡ false → open_after takes None mid ≡ open_after takes (Some o) (l ∷ mid)
      same_open e = rw e refl

      moved : (us : List Growing) → (us ++ g ∷ []) ++ growing_of (l ∷ mid) ≡ ((us ++ g ∷ []) ++ []) ++ growing_of mid
      moved us =
          ap (λ (vs : List Growing). (us ++ g ∷ []) ++ vs) (shut_line l mid shut)
          ∙ ap (λ (vs : List Growing). vs ++ growing_of mid) (sym (append-nil (us ++ g ∷ [])))

  -- ---- all lines

  none_by : (b : Bool) (l : ActiveLine) (mid rest : List ActiveLine) → takes l.windings ≡ b → All (λ m. x_on l.line y <ℤ x_on m.line y) mid
      → ((x : ℤ) (closed : List Growing) (runs : List Run) (fresh : List Growing) (p : Option Growing)
      (o : Option ActiveLine) → Stands takes y x (mid ++ rest) closed runs fresh given p o
      → AreOpened takes (inside_of o) (mid ++ rest) → StartsFrom y x mid → Passed takes y mid rest closed runs fresh given p o)
      → (x : ℤ) (closed : List Growing) (runs : List Run) (fresh : List Growing) → Stands takes y x (l ∷ (mid ++ rest)) closed runs fresh given None None
      → AreOpened takes false (l ∷ (mid ++ rest)) → x ≤ℤ x_on l.line y → Passed takes y (l ∷ mid) rest closed runs fresh given None None
  none_by true l mid rest e ascend later x closed runs fresh s opened le =
      let k = rw e at opened in
      let g : Growing = record { y0 = k.0.since; left = l.line; right = end_of takes l.line (mid ++ rest) } in
      let now = begins l x (mid ++ rest) closed runs fresh g refl refl le s in
      let q = later (next_x l.line) closed runs fresh (Some g) (Some l) now k.1 (starts_after l mid ascend) in
      begin_passed l mid rest closed runs fresh g e (ap (λ (w : Option Opened). growing_by l.line w (growing_of mid)) k.0.opened) q
  none_by false l mid rest e ascend later x closed runs fresh s opened le =
      let k = rw e at opened in
      let now = stays_none l x (mid ++ rest) (l ∷ (mid ++ rest)) closed runs fresh le s in
      let q = later (next_x l.line) closed runs fresh None None now k.1 (starts_after l mid ascend) in
      skip l mid rest closed runs fresh None None None k.0 (rw e refl) (rw e refl) q

  some_by : (b : Bool) (l : ActiveLine) (mid rest : List ActiveLine) → takes l.windings ≡ b → All (λ m. x_on l.line y <ℤ x_on m.line y) mid
      → ((x : ℤ) (closed : List Growing) (runs : List Run) (fresh : List Growing) (p : Option Growing)
      (o : Option ActiveLine) → Stands takes y x (mid ++ rest) closed runs fresh given p o
      → AreOpened takes (inside_of o) (mid ++ rest) → StartsFrom y x mid → Passed takes y mid rest closed runs fresh given p o)
      → (x : ℤ) (closed : List Growing) (runs : List Run) (fresh : List Growing) (g : Growing) (o : ActiveLine)
      → Stands takes y x (l ∷ (mid ++ rest)) closed runs fresh given (Some g) (Some o)
      → AreOpened takes true (l ∷ (mid ++ rest)) → x ≤ℤ x_on l.line y → Passed takes y (l ∷ mid) rest closed runs fresh given (Some g) (Some o)
  some_by true l mid rest e ascend later x closed runs fresh g o s opened le =
      let k = rw e at opened in
      let now = stays_open l x (mid ++ rest) closed runs fresh g o e le s in
      let q = later (next_x l.line) closed runs fresh (Some g) (Some o) now k.1 (starts_after l mid ascend) in
      skip l mid rest closed runs fresh (Some g) (Some o) (Some o) k.0 (rw e refl) (rw e refl) q
  some_by false l mid rest e ascend later x closed runs fresh g o s opened le =
      let k = rw e at opened in
      let r : Run = record { left = o.line; right = l.line; a = o.windings.a; b = o.windings.b } in
      let now = ends l x (mid ++ rest) closed runs fresh g o e le s in
      let q = later (next_x l.line) (closed ++ g ∷ []) (runs ++ r ∷ []) (fresh ++ g ∷ []) None None now k.1 (starts_after l mid ascend) in
      end_passed l mid rest closed runs fresh g o e k.0 q

  -- each growing trapezoid goes on in its run
  pub quiet : (mid rest : List ActiveLine) (x : ℤ) (closed : List Growing) (runs : List Run) (fresh : List Growing) (p : Option Growing) (o : Option ActiveLine)
      → AscendStrictly y mid → Stands takes y x (mid ++ rest) closed runs fresh given p o → AreOpened takes (inside_of o) (mid ++ rest) → StartsFrom y x mid
      → Passed takes y mid rest closed runs fresh given p o
  quiet [] rest x closed runs fresh p o ascend s opened starts = none_passed x rest closed runs fresh p o s
  quiet (l ∷ mid) rest x closed runs fresh None None ascend s opened starts =
      none_by _ l mid rest refl ascend.0
      (λ x' c r f p o s' opened' starts'. quiet mid rest x' c r f p o ascend.1 s' opened' starts') x closed runs
      fresh s opened starts
  quiet (l ∷ mid) rest x closed runs fresh None (Some o) ascend s opened starts = absurd s.at
  quiet (l ∷ mid) rest x closed runs fresh (Some g) None ascend s opened starts = absurd s.at
  quiet (l ∷ mid) rest x closed runs fresh (Some g) (Some o) ascend s opened starts =
      some_by _ l mid rest refl ascend.0
      (λ x' c r f p k s' opened' starts'. quiet mid rest x' c r f p k ascend.1 s' opened' starts') x closed runs
      fresh g o s opened starts
