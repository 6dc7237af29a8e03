-- The first state of a stop, where nothing is settled, and the last one, where nothing is open: and from there to the next stop.
use Rattle.std.proofs.Common.{ℤ, pos, ◌≡◌, ◌-ℤ◌, ◌≤ℤ◌, ◌<ℤ◌, Bool, true, false, List, [], ◌∷◌, ◌++◌, map, Option, Some}
use Rattle.std.proofs.Common.{None, All, is_some, append-nil, arith, refl, ap, sym, subst, ◌∙◌}
use Rattle.std.specs.Option.{option_to_list}
use Rattle.std.proofs.lemmas.Int.{ints}
use Rattle.std.proofs.lemmas.List.Elements.{All-nil, All-cons, All-head, All-tail}
use Rattle.half_grid.specs.Edges.{EdgeParts, IsEdge}
use Rattle.half_grid.specs.Lines.{x_on}
use Rattle.half_grid.specs.Rows.{place}
use Rattle.half_grid.specs.Trapezoids.{Trapezoid}
use Rattle.half_grid.specs.Windows.{RowRange}
use Rattle.half_grid.specs.declared.plane.Line.{Line}
use Rattle.scan_line.specs.declared.runs.Run.{Run}
use Rattle.trap_join.specs.declared.front.Growing.{Growing}
use Rattle.trap_join.specs.Fronts.{ended_at, grown_into}
use Rattle.trap_join.specs.Joins.{IsJoinedSoFar}
use Rattle.active_lines.specs.declared.item.ActiveLine.{ActiveLine}
use Rattle.active_lines.specs.declared.item.Opened.{Opened}
use Rattle.active_lines.specs.declared.item.Windings.{Windings}
use Rattle.row_lists.specs.Weights.{NoEnds}
use Rattle.row_lists.specs.RowLists.{IsRowList, AscendIn, NoMeetings, no_windings}
use Rattle.row_lists.specs.RowRuns.{run_from, runs_of, last_windings, IsTestIn}
use Rattle.row_lists.proofs.ForCallers.{begin_right}
use Rattle.plane_sweep.specs.StopRuns.{growing_of, growing_by, AreOpened, AreOpenedFrom, opened_from, open_after}
use Rattle.plane_sweep.specs.Settled.{IsSettled}
use Rattle.plane_sweep.specs.States.{IsOpenAt, AreAlikeAt}
use Rattle.plane_sweep.proofs.Settling.{nothing_settled}
use Rattle.plane_sweep.proofs.Lefts.{growing_lefts}
use Rattle.plane_sweep.proofs.Openings.{from_is_opened}
use Rattle.plane_sweep.proofs.RunsAlong.{inside_after, inside_by_windings, all_ended}
use Rattle.plane_sweep.proofs.SlabRuns.{slab_runs, stop_joined}
use Rattle.plane_sweep.proofs.QuietAlike.{open_is}

-- ---- left of all lines

pub first_state : (takes : Windings → Bool) (y x : ℤ) (rest : List ActiveLine) → AreAlikeAt takes y x [] [] rest []
first_state takes y x rest = record {
  closed = [];
  fresh = [];
  growing = None;
  stands = record {
    settled = nothing_settled y;
    at = tt;
    grow = All-nil (λ g. x_on g.left y <ℤ x);
    run = All-nil (λ r. x_on r.left y <ℤ x);
    pends = tt;
  };
  gone_is = refl;
  before_is = refl;
}

-- ---- right of all lines

pub none_open : (p : Option Growing) (o : Option ActiveLine) → IsOpenAt p o → is_some o ≡ false → p ≡ None
none_open None o at h = refl
none_open (Some g) None at h = absurd at
none_open (Some g) (Some l) at h = absurd (let clash : ⊥ = cc in clash)

pub all_closed : (us vs : List Growing) (p : Option Growing) → us ≡ vs ++ option_to_list p → p ≡ None → vs ≡ us
all_closed us vs p e none = sym (e ∙ (ap (λ (q : Option Growing). vs ++ option_to_list q) none ∙ append-nil vs))

pub stop_settled : (takes : Windings → Bool) (y x : ℤ) (gone before rest : List ActiveLine) (given : List Trapezoid) (w : Windings) → takes no_windings ≡ false
    → last_windings no_windings before ≡ w → takes w ≡ false → AreAlikeAt takes y x gone before rest given
    → IsSettled y (growing_of gone) (runs_of takes false before) (growing_of before) given
stop_settled takes y x gone before rest given w nothing last shut s =
    let none = none_open s.growing (open_after takes None before) s.stands.at (open_is takes before w nothing last ∙ shut) in
    let outside : inside_after takes false before ≡ false
    = ap (λ (b : Bool). inside_after takes b before) (sym nothing) ∙ (sym (inside_by_windings takes no_windings before) ∙ (ap takes last ∙ shut)) in
    subst (λ (us : List Growing). IsSettled y us (runs_of takes false before) (growing_of before) given)
    (all_closed (growing_of gone) s.closed s.growing s.gone_is none)
    (subst (λ (us : List Growing). IsSettled y s.closed (runs_of takes false before) us given)
    (all_closed (growing_of before) s.fresh s.growing s.before_is none)
    (subst (λ (rs : List Run). IsSettled y s.closed rs s.fresh given) (sym (all_ended takes before outside)) s.stands.settled))

-- ---- what is open at the lines, by what grows

head_is : (g h : Growing) (us vs : List Growing) → g ∷ us ≡ h ∷ vs → g ≡ h
head_is g h us vs e = cc

tail_is : (g h : Growing) (us vs : List Growing) → g ∷ us ≡ h ∷ vs → us ≡ vs
tail_is g h us vs e = cc

module _ (front : List Growing) (y j : ℤ) (takes : Windings → Bool) where
  -- what grows at later lines begins right of this one
  abbrev Right : ℤ → List Growing → Type 0
  Right n us = All (λ g. n <ℤ place g.left j) us

  abbrev RunRight : ℤ → List Run → Type 0
  RunRight n rs = All (λ r. n <ℤ place r.left j) rs

  not_among : (g h : Growing) (us vs : List Growing) → us ≡ g ∷ vs → All (λ k. place h.left j <ℤ place k.left j) us → g.left ≡ h.left → ⊥
  not_among g h us vs e right same =
      let lt = All-head (λ k. place h.left j <ℤ place k.left j) g vs (subst (All (λ k. place h.left j <ℤ place k.left j)) e right) in
      let at = ap (λ (line : Line). place line j) same in
      absurd (omega (arith, ints, lt, at))

  growing_right : (n : ℤ) (lines : List ActiveLine) → All (λ m. n <ℤ place m.line j) lines → Right n (growing_of lines)
  growing_right n lines h = growing_lefts (λ line. n <ℤ place line j) lines h

  grown_right : (n : ℤ) (rs : List Run) → RunRight n rs → Right n (map (grown_into front y) rs)
  grown_right n [] h = All-nil (λ g. n <ℤ place g.left j)
  grown_right n (r ∷ rs) h =
      All-cons (λ g. n <ℤ place g.left j) (grown_into front y r) (map (grown_into front y) rs) (All-head (λ s. n <ℤ place s.left j) r rs h)
      (grown_right n rs (All-tail (λ s. n <ℤ place s.left j) r rs h))

  -- no run begins at the line: nothing is open there
  shut_by : (o : Option Opened) (l : ActiveLine) (lines : List ActiveLine) (rs : List Run) → l.opened ≡ o → RunRight (place l.line j) rs
      → growing_by l.line o (growing_of lines) ≡ map (grown_into front y) rs → (l.opened ≡ None) × (growing_of lines ≡ map (grown_into front y) rs)
  shut_by None l lines rs e right same = (e, same)
  shut_by (Some o) l lines rs e right same =
      absurd (not_among (let g : Growing = record { y0 = o.since; left = l.line; right = o.right } in g)
      (let g : Growing = record { y0 = o.since; left = l.line; right = o.right } in g)
      (map (grown_into front y) rs) (growing_of lines) (sym same) (grown_right (place l.line j) rs right) refl)

  opened_is : (o : Opened) (line : Line) (g : Growing) → (let h : Growing = record { y0 = o.since; left = line; right = o.right } in h) ≡ g
      → o ≡ (let k : Opened = record { right = g.right; since = g.y0 } in k)
  opened_is o line g e = ap (λ (h : Growing). let k : Opened = record { right = h.right; since = h.y0 } in k) e

  -- a run begins at the line: its trapezoid is open there
  begun_by : (o : Option Opened) (l : ActiveLine) (lines : List ActiveLine) (r : Run) (rs : List Run) → l.opened ≡ o → r.left ≡ l.line
      → All (λ m. place l.line j <ℤ place m.line j) lines
      → growing_by l.line o (growing_of lines) ≡ map (grown_into front y) (r ∷ rs)
      → (l.opened ≡ Some (opened_from front y r)) × (growing_of lines ≡ map (grown_into front y) rs)
  begun_by None l lines r rs e left right same =
      absurd (not_among (grown_into front y r) (let g : Growing = record { y0 = y; left = l.line; right = l.line } in g) (growing_of lines)
      (map (grown_into front y) rs) same
      (growing_right (place l.line j) lines right) left)
  begun_by (Some o) l lines r rs e left right same = (
    e ∙ ap (λ (k : Opened). Some k) (opened_is o l.line (grown_into front y r)
        (head_is _ (grown_into front y r) (growing_of lines) (map (grown_into front y) rs) same)),
    tail_is _ (grown_into front y r) (growing_of lines) (map (grown_into front y) rs) same,
  )

  back_by : (b : Bool) (l : ActiveLine) (lines : List ActiveLine) → takes l.windings ≡ b → AscendIn j (l ∷ lines)
      → growing_of (l ∷ lines) ≡ map (grown_into front y) (runs_of takes false (l ∷ lines))
      → ((inside : Bool) → growing_of lines ≡ map (grown_into front y) (runs_of takes inside lines) → AreOpenedFrom front y takes inside lines)
      → AreOpenedFrom front y takes false (l ∷ lines)
  back_by true l lines e ascend same later =
      let k = begun_by l.opened l lines (run_from takes l lines) (runs_of takes true lines) refl refl ascend.0
      (same ∙ ap (map (grown_into front y)) (begins l lines e)) in
      opens l lines e (k.0, later true k.1)
    where
      begins : (l : ActiveLine) (lines : List ActiveLine) → takes l.windings ≡ true
          → runs_of takes false (l ∷ lines) ≡ run_from takes l lines ∷ runs_of takes true lines
      begins l lines e = rw e refl

      opens : (l : ActiveLine) (lines : List ActiveLine) → takes l.windings ≡ true
          → (l.opened ≡ Some (opened_from front y (run_from takes l lines))) × AreOpenedFrom front y takes true lines
          → AreOpenedFrom front y takes false (l ∷ lines)
      opens l lines e k = rw e k
  back_by false l lines e ascend same later =
      let k = shut_by l.opened l lines (runs_of takes false lines) refl (begin_right takes j (place l.line j) false lines ascend.0)
      (same ∙ ap (map (grown_into front y)) (none l lines e)) in
      opens l lines e (k.0, later false k.1)
    where
      none : (l : ActiveLine) (lines : List ActiveLine) → takes l.windings ≡ false → runs_of takes false (l ∷ lines) ≡ runs_of takes false lines
      none l lines e = rw e refl

      opens : (l : ActiveLine) (lines : List ActiveLine) → takes l.windings ≡ false → (l.opened ≡ None) × AreOpenedFrom front y takes false lines
          → AreOpenedFrom front y takes false (l ∷ lines)
      opens l lines e k = rw e k

  -- lines at which just the runs' trapezoids grow are opened so
  pub opened_back : (inside : Bool) (lines : List ActiveLine) → AscendIn j lines → growing_of lines ≡ map (grown_into front y) (runs_of takes inside lines)
      → AreOpenedFrom front y takes inside lines
  opened_back inside [] ascend same = tt
  opened_back true (l ∷ lines) ascend same =
      let k = shut_by l.opened l lines (runs_of takes (takes l.windings) lines) refl
      (begin_right takes j (place l.line j) (takes l.windings) lines ascend.0) same in
      (k.0, opened_back (takes l.windings) lines ascend.1 k.1)
  opened_back false (l ∷ lines) ascend same = back_by _ l lines refl ascend same (λ inside k. opened_back inside lines ascend.1 k)

pub stop_opened : (takes : Windings → Bool) (y : ℤ) (front : List Growing) (lines : List ActiveLine) (given : List Trapezoid) → AscendIn y lines
    → IsSettled y front (runs_of takes false lines) (growing_of lines) given → AreOpened takes false lines
stop_opened takes y front lines given ascend s = from_is_opened front y takes false lines (opened_back front y y takes false lines ascend s.grows)

-- ---- up to the next stop

pub next_joined : (post : ℤ → ℤ → Bool → Type 0) (edges : List EdgeParts) (window : RowRange) (takes : Windings → Bool) (y top : ℤ)
    (given done : List Trapezoid) (front : List Growing)
    (lines : List ActiveLine) → All IsEdge edges → IsRowList edges y lines → takes no_windings ≡ false → takes (last_windings no_windings lines) ≡ false
    → ((j : ℤ) → y ≤ℤ j → j <ℤ top → IsTestIn post edges j takes) → IsJoinedSoFar post edges window y given (map (ended_at y) front)
    → IsSettled y front (runs_of takes false lines) (growing_of lines) done → y <ℤ top → top ≤ℤ window.y1 → NoEnds edges y (top -ℤ pos 1)
    → NoMeetings lines y (top -ℤ pos 1)
    → IsJoinedSoFar post edges window top (given ++ done) (map (ended_at top) (growing_of lines))
next_joined post edges window takes y top given done front lines known list nothing shut test so_far settled up within ends meetings =
    stop_joined post edges window y top given done front (growing_of lines) (runs_of takes false lines) so_far settled up within
    (slab_runs post edges y top takes lines known list up ends meetings test nothing shut)
