-- Left lines at a stop are distinct: in the rows below and above it the lines stand in order.
use Rattle.std.proofs.Common.{ℤ, if◌then◌else◌, ◌≡◌, ◌≢◌, ◌<ℤ◌, Bool, true, false, List, [], ◌∷◌, ◌++◌, Option, Some}
use Rattle.std.proofs.Common.{None, IfSome, All, arith, refl, ap, sym, subst, ◌∙◌}
use Rattle.std.proofs.lemmas.Int.{ints}
use Rattle.std.proofs.lemmas.List.Elements.{All-nil, All-cons, All-head, All-tail, All-weaker}
use Rattle.half_grid.specs.Rows.{place}
use Rattle.half_grid.specs.declared.plane.Line.{Line}
use Rattle.scan_line.specs.declared.runs.Run.{Run}
use Rattle.trap_join.specs.declared.front.Growing.{Growing}
use Rattle.active_lines.specs.declared.item.ActiveLine.{ActiveLine}
use Rattle.active_lines.specs.declared.item.Opened.{Opened}
use Rattle.active_lines.specs.declared.item.Windings.{Windings}
use Rattle.row_lists.specs.RowLists.{AscendIn}
use Rattle.plane_sweep.specs.StopRuns.{growing_of, growing_by, ended_runs, open_after}
use Rattle.plane_sweep.specs.States.{IsAlone}
use Rattle.plane_sweep.proofs.Lefts.{growing_lefts, open_left}

pub other_line : (j : ℤ) (l m : Line) → place l j <ℤ place m j → l ≢ m
other_line j l m lt e = (let same = ap (λ (k : Line). place k j) e in absurd (omega (arith, ints, lt, same)))

-- ---- what grew up to the stop, by the row below

head_is : (g h : Growing) (us vs : List Growing) → g ∷ us ≡ h ∷ vs → g ≡ h
head_is g h us vs e = cc

tail_is : (g h : Growing) (us vs : List Growing) → g ∷ us ≡ h ∷ vs → us ≡ vs
tail_is g h us vs e = cc

pop_last : (P : Growing → Type 0) (xs : List Growing) (g : Growing) → All P (xs ++ g ∷ []) → P g
pop_last P [] g h = All-head P g [] h
pop_last P (x ∷ xs) g h = pop_last P xs g (All-tail P x (xs ++ g ∷ []) h)

module _ (j : ℤ) (g : Growing) where
  abbrev BeginLeft : List Growing → Type 0
  BeginLeft closed = All (λ c. place c.left j <ℤ place g.left j) closed

  grow_by : (o : Option Opened) (l : ActiveLine) (lines : List ActiveLine) (closed : List Growing) → All (λ m. place l.line j <ℤ place m.line j) lines
      → growing_by l.line o (growing_of lines) ≡ closed ++ g ∷ [] → ((cs : List Growing) → growing_of lines ≡ cs ++ g ∷ [] → BeginLeft cs) → BeginLeft closed
  grow_by None l lines closed right e later = later closed e
  grow_by (Some o) l lines [] right e later = All-nil (λ c. place c.left j <ℤ place g.left j)
  grow_by (Some o) l lines (c ∷ cs) right e later =
      let first = ap (λ (k : Growing). place k.left j) (head_is _ c (growing_of lines) (cs ++ g ∷ []) e) in
      let rest = tail_is _ c (growing_of lines) (cs ++ g ∷ []) e in
      let far : place l.line j <ℤ place g.left j
      = pop_last (λ k. place l.line j <ℤ place k.left j) cs g
      (subst (All (λ k. place l.line j <ℤ place k.left j)) rest (growing_lefts (λ line. place l.line j <ℤ place line j) lines right)) in
      All-cons (λ k. place k.left j <ℤ place g.left j) c cs (omega (arith, ints, first, far)) (later cs rest)

  pub grow_left : (lines : List ActiveLine) (closed : List Growing) → AscendIn j lines → growing_of lines ≡ closed ++ g ∷ [] → BeginLeft closed
  grow_left [] [] ascend e = All-nil (λ c. place c.left j <ℤ place g.left j)
  grow_left [] (c ∷ closed) ascend e = absurd (let clash : ⊥ = cc in clash)
  grow_left (l ∷ lines) closed ascend e = grow_by l.opened l lines closed ascend.0 e (λ cs k. grow_left lines cs ascend.1 k)

-- ---- the runs, by the row above

module _ (takes : Windings → Bool) (y : ℤ) where
  -- the line at which a run began stands left of these
  abbrev StandsLeft : Option ActiveLine → List ActiveLine → Type 0
  StandsLeft None lines = Unit {0}
  StandsLeft (Some b) lines = All (λ m. place b.line y <ℤ place m.line y) lines

  abbrev EndLeft : ActiveLine → List Run → Type 0
  EndLeft o runs = All (λ r. place r.left y <ℤ place o.line y) runs

  chosen : (b : Bool) (l : ActiveLine) (lines : List ActiveLine) → All (λ m. place l.line y <ℤ place m.line y) lines
      → StandsLeft (if b then Some l else None) lines
  chosen true l lines h = h
  chosen false l lines h = tt

  kept_left : (o b : ActiveLine) (opening : Option ActiveLine) → opening ≡ Some o → IfSome opening (λ k. place b.line y <ℤ place k.line y)
      → place b.line y <ℤ place o.line y
  kept_left o b (Some k) e h = (let same : k ≡ o = cc in subst (λ (m : ActiveLine). place b.line y <ℤ place m.line y) same h)
  kept_left o b None e h = absurd (let clash : ⊥ = cc in clash)

  still : (b l : ActiveLine) (lines : List ActiveLine) → takes l.windings ≡ true → ended_runs takes (Some b) lines ≡ ended_runs takes (Some b) (l ∷ lines)
  still b l lines e = rw e refl

  still_open : (b l : ActiveLine) (lines : List ActiveLine) → takes l.windings ≡ true → open_after takes (Some b) lines ≡ open_after takes (Some b) (l ∷ lines)
  still_open b l lines e = rw e refl

  one : (b l : ActiveLine) (lines : List ActiveLine) → takes l.windings ≡ false
      → (let r : Run = record { left = b.line; right = l.line; a = b.windings.a; b = b.windings.b } in r) ∷ ended_runs takes None lines ≡ ended_runs takes
      (Some b) (l ∷ lines)
  one b l lines e = rw e refl

  none_open : (b l : ActiveLine) (lines : List ActiveLine) → takes l.windings ≡ false → open_after takes None lines ≡ open_after takes (Some b) (l ∷ lines)
  none_open b l lines e = rw e refl

  ends_by : (c : Bool) (o b l : ActiveLine) (lines : List ActiveLine) → takes l.windings ≡ c → All (λ m. place b.line y <ℤ place m.line y) (l ∷ lines)
      → open_after takes (Some b) (l ∷ lines) ≡ Some o → (open_after takes (Some b) lines ≡ Some o → EndLeft o (ended_runs takes (Some b) lines))
      → (open_after takes None lines ≡ Some o → EndLeft o (ended_runs takes None lines)) → EndLeft o (ended_runs takes (Some b) (l ∷ lines))
  ends_by true o b l lines t left e on after =
      subst (EndLeft o) (still b l lines t) (on (still_open b l lines t ∙ e))
  ends_by false o b l lines t left e on after =
      let later = none_open b l lines t ∙ e in
      let far = kept_left o b (open_after takes None lines) later
      (open_left (λ line. place b.line y <ℤ place line y) takes lines None tt (All-tail (λ m. place b.line y <ℤ place m.line y) l lines left)) in
      subst (EndLeft o) (one b l lines t)
      (All-cons (λ r. place r.left y <ℤ place o.line y) (let r : Run = record { left = b.line; right = l.line; a = b.windings.a; b = b.windings.b } in r)
      (ended_runs takes None lines) far (after later))

  pub ended_left : (lines : List ActiveLine) (begun : Option ActiveLine) (o : ActiveLine) → AscendIn y lines → StandsLeft begun lines
      → open_after takes begun lines ≡ Some o → EndLeft o (ended_runs takes begun lines)
  ended_left [] begun o ascend left e = All-nil (λ r. place r.left y <ℤ place o.line y)
  ended_left (l ∷ lines) None o ascend left e =
      ended_left lines (if takes l.windings then Some l else None) o ascend.1 (chosen (takes l.windings) l lines ascend.0) e
  ended_left (l ∷ lines) (Some b) o ascend left e =
      let rest = All-tail (λ m. place b.line y <ℤ place m.line y) l lines left in
      ends_by _ o b l lines refl left e (λ k. ended_left lines (Some b) o ascend.1 rest k) (λ k. ended_left lines None o ascend.1 tt k)

  -- no run that ended began at the line at which the open one did
  pub runs_elsewhere : (before : List ActiveLine) (o : ActiveLine) → AscendIn y before → open_after takes None before ≡ Some o
      → All (λ r. r.left ≢ o.line) (ended_runs takes None before)
  runs_elsewhere before o ascend e =
      All-weaker (λ r. place r.left y <ℤ place o.line y) (λ r. r.left ≢ o.line) (λ r lt. other_line y r.left o.line lt) (ended_runs takes None before)
      (ended_left before None o ascend tt e)

  -- the open trapezoid and the open run have a left line of their own
  pub alone_at : (j : ℤ) (gone before : List ActiveLine) (closed : List Growing) (g : Growing) (o : ActiveLine) → AscendIn j gone → AscendIn y before
      → growing_of gone ≡ closed ++ g ∷ [] → open_after takes None before ≡ Some o → g.left ≡ o.line → IsAlone closed (ended_runs takes None before) g.left
  alone_at j gone before closed g o below above grow e same = record {
    grow_elsewhere =
        All-weaker (λ c. place c.left j <ℤ place g.left j) (λ c. c.left ≢ g.left) (λ c lt. other_line j c.left g.left lt) closed
        (grow_left j g gone closed below grow);
    run_elsewhere = subst (λ (line : Line). All (λ r. r.left ≢ line) (ended_runs takes None before)) (sym same) (runs_elsewhere before o above e);
  }
