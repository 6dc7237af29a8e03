-- The parts of edges in a window have the area of the edges there; and the number that falls along a sweep.
use Rattle.std.proofs.Common.{ℕ, ℤ, pos, negsuc, ◌*◌, ◌+◌, ◌^◌, ◌<◌, ◌≤◌, ◌≡◌, ◌+ℤ◌, ◌-ℤ◌, ◌≤ℤ◌, ◌<ℤ◌, Bool, true, false}
use Rattle.std.proofs.Common.{cond, List, [], ◌∷◌, ◌++◌, length, drop}
use Rattle.std.proofs.Common.{Some, None, All, append_assoc, arith, refl, ap, sym, subst, ◌∙◌}
use Rattle.std.proofs.Math.Nat.{mul-le-mul_right}
use Rattle.std.specs.Int.{int_min, int_max}
use Rattle.std.specs.List.{cons_option}
use Rattle.std.proofs.lemmas.Int.{ints, clamps}
use Rattle.std.proofs.lemmas.List.{length-drop}
use Rattle.std.proofs.lemmas.List.Elements.{All-nil, All-cons, All-weaker}
use Rattle.half_grid.specs.Edges.{EdgeParts, edge_parts, edges_winding}
use Rattle.half_grid.specs.JoinedLists.{IsJoined, StandsBefore}
use Rattle.half_grid.specs.Trapezoids.{Trapezoid, CoversExactly}
use Rattle.half_grid.specs.Windows.{RowRange}
use Rattle.half_grid.specs.declared.border.Operand.TheVariants.{A, B}
use Rattle.half_grid.specs.declared.plane.Line.{Line}
use Rattle.half_grid.specs.declared.plane.Tile.{Tile}
use Rattle.scan_line.specs.ClippedEdges.{parts_in}
use Rattle.scan_line.specs.Rules.{IsRule}
use Rattle.scan_line.specs.Runs.{IsBalanced}
use Rattle.scan_line.proofs.ForCallers.{winds_in_window, stays_balanced}
use Rattle.trap_join.specs.Joins.{IsTakenIn, IsJoinedSoFar, rows_up}
use Rattle.trap_join.specs.Maximal.{IsRunAt, IsMaximal, AreMaximal}
use Rattle.trap_join.proofs.ForCallers.{taken_maximal, taken_after, ends_joined, ends_maximal, ends_covers}
use Rattle.active_lines.specs.declared.item.ActiveLine.{ActiveLine}
use Rattle.row_lists.specs.declared.event.Event.{Event}
use Rattle.active_lines.specs.ActiveLists.{items}
use Rattle.plane_sweep.specs.declared.next_stop.Stop.{Stop}
use Rattle.plane_sweep.specs.NextStops.{IsStopAt}
use Rattle.plane_sweep.specs.Sources.{AreEventsOf}
use Rattle.plane_sweep.specs.PlaneSweeps.{SweepState, HasGiven, IsBelowAll, HasComeTo, still_to_come}
use Rattle.plane_sweep.specs.declared.progress.Progress.{Progress}
use Rattle.plane_sweep.specs.StopSettles.{SettlesStop}
use Rattle.plane_sweep.specs.Stops.{IsAboveStop}
use Rattle.plane_sweep.specs.Sweeps.{AreInside, IsSweptAbove}
use Rattle.plane_sweep.proofs.SweepSteps.{begins, up, in_window, goes_on, some_joined}

-- ---- the parts are in the window

abbrev clip : RowRange → EdgeParts → EdgeParts
clip window e = edge_parts (int_max e.y0 window.y0) (int_min e.y1 window.y1) e.line e.up e.operand

inside_by : (window : RowRange) (e : EdgeParts) (rest : List EdgeParts) (b : Bool) → AreInside window rest
    → AreInside window (cons_option (cond b (Some (clip window e)) None) rest)
inside_by window e rest true h =
    All-cons (λ (f : EdgeParts). (window.y0 ≤ℤ f.y0) × (f.y1 ≤ℤ window.y1)) (clip window e) rest
    (omega (arith, ints, clamps), omega (arith, ints, clamps)) h
inside_by window e rest false h = h

pub parts_inside : (window : RowRange) (edges : List EdgeParts) → AreInside window (parts_in window edges)
parts_inside window [] = All-nil (λ (f : EdgeParts). (window.y0 ≤ℤ f.y0) × (f.y1 ≤ℤ window.y1))
parts_inside window (e ∷ edges) = inside_by window e (parts_in window edges) _ (parts_inside window edges)

-- ---- areas with the same tiles

module _ (P Q : Tile → Type 0) (there : (t : Tile) → P t → Q t) (back : (t : Tile) → Q t → P t) where
  same_run : (l r : Line) (j : ℤ) → IsRunAt P l r j → IsRunAt Q l r j
  same_run l r j h = record {
    has_tile = h.has_tile;
    inside = λ t at a b. there t (h.inside t at a b);
    left_end = λ t at e q. h.left_end t at e (back t q);
    right_end = λ t at e q. h.right_end t at e (back t q);
  }

  same_cover : (traps : List Trapezoid) → CoversExactly traps P → CoversExactly traps Q
  same_cover traps h = record { once = λ t q. h.once t (back t q); never = λ t n. h.never t (λ p. n (there t p)) }

same_maximal : (P Q : Tile → Type 0) (there : (t : Tile) → P t → Q t) (back : (t : Tile) → Q t → P t) (window : RowRange) (z : Trapezoid)
    → IsMaximal P window z → IsMaximal Q window z
same_maximal P Q there back window z h = record {
  legal = h.legal;
  in_window = h.in_window;
  runs = λ j from below. same_run P Q there back z.left z.right j (h.runs j from below);
  top = λ lt r. h.top lt (same_run Q P back there z.left z.right z.y1 r);
  bottom = λ lt r. h.bottom lt (same_run Q P back there z.left z.right (z.y0 -ℤ pos 1) r);
}

-- ---- the first of those that wait is given

module _ (post : ℤ → ℤ → Bool → Type 0) (edges : List EdgeParts) (window : RowRange) (y : ℤ) (lines : List ActiveLine) (left : List Event)
    (given waiting rest : List Trapezoid) where
  pub given_one : (z : Trapezoid) → waiting ≡ z ∷ rest → IsSweptAbove post edges window y lines left (given ++ waiting)
      → IsSweptAbove post edges window y lines left ((given ++ z ∷ []) ++ rest)
  given_one z e h =
      subst (λ (zs : List Trapezoid). IsSweptAbove post edges window y lines left zs)
      (ap (λ (ws : List Trapezoid). given ++ ws) e ∙ sym (append_assoc given (z ∷ []) rest)) h

  pub waits_as : waiting ≡ rest → IsSweptAbove post edges window y lines left (given ++ waiting) → IsSweptAbove post edges window y lines left (given ++ rest)
  waits_as e h = subst (λ (ws : List Trapezoid). IsSweptAbove post edges window y lines left (given ++ ws)) e h

-- ---- the area of the parts is that of the edges

module _ (post : ℤ → ℤ → Bool → Type 0) (edges : List EdgeParts) (window : RowRange) where
  abbrev Whole : Tile → Type 0
  Whole = IsTakenIn post edges window

  abbrev Parts : Tile → Type 0
  Parts = IsTakenIn post (parts_in window edges) window

  pub whole : (t : Tile) → Parts t → Whole t
  whole t h = record {
    from = h.from;
    below = h.below;
    taken =
        subst (λ (a : ℤ). post a (edges_winding B edges t) true) (winds_in_window A window edges t h.from h.below)
        (subst (λ (b : ℤ). post (edges_winding A (parts_in window edges) t) b true) (winds_in_window B window edges t h.from h.below) h.taken);
  }

  pub parts : (t : Tile) → Whole t → Parts t
  parts t h = record {
    from = h.from;
    below = h.below;
    taken =
        subst (λ (a : ℤ). post a (edges_winding B (parts_in window edges) t) true) (sym (winds_in_window A window edges t h.from h.below))
        (subst (λ (b : ℤ). post (edges_winding A edges t) b true) (sym (winds_in_window B window edges t h.from h.below)) h.taken);
  }

  -- ---- one more was given

  module _ (pre : ℤ → ℤ → Type 0) (rule : IsRule pre post) (y : ℤ) (lines : List ActiveLine) (left : List Event) (given rest : List Trapezoid)
      (z : Trapezoid) (swept : IsSweptAbove post (parts_in window edges) window y lines left ((given ++ z ∷ []) ++ rest)) where
    joined_here : (top : ℤ) × (front : List Trapezoid) × IsJoinedSoFar post (parts_in window edges) window top (given ++ z ∷ rest) front
    joined_here =
        subst (λ (zs : List Trapezoid). (top : ℤ) × (front : List Trapezoid) × IsJoinedSoFar post (parts_in window edges) window top zs front)
        (append_assoc given (z ∷ []) rest)
        (some_joined pre post rule (parts_in window edges) window y lines left ((given ++ z ∷ []) ++ rest) swept)

    pub given_maximal : IsMaximal Whole window z
    given_maximal =
        let k = joined_here in
        same_maximal Parts Whole whole parts window z
        (taken_maximal post (parts_in window edges) window k.0 given (z ∷ rest) k.1 k.2 z rest refl)

    pub given_after : All (λ x. StandsBefore x z) given
    given_after = let k = joined_here in taken_after post (parts_in window edges) window k.0 given (z ∷ rest) k.1 k.2 z rest refl

  -- ---- all were given

  module _ (given waiting : List Trapezoid) (none : waiting ≡ [])
      (so_far : IsJoinedSoFar post (parts_in window edges) window window.y1 (given ++ waiting) []) where
    pub whole_joined : IsJoined window given
    whole_joined = ends_joined post (parts_in window edges) window window.y1 given waiting [] so_far none refl refl

    pub whole_maximal : AreMaximal Whole window given
    whole_maximal =
        let k = ends_maximal post (parts_in window edges) window window.y1 given waiting [] so_far none refl refl in
        record {
          each = All-weaker (IsMaximal Parts window) (IsMaximal Whole window) (λ z h. same_maximal Parts Whole whole parts window z h) given k.each;
          all = λ z h. k.all z (same_maximal Whole Parts parts whole window z h);
        }

    pub whole_covers : CoversExactly given Whole
    whole_covers = same_cover Parts Whole whole parts given (ends_covers post (parts_in window edges) window window.y1 given waiting [] so_far none refl refl)

-- ---- the number that falls

rows_are : (z : ℤ) → pos 0 ≤ℤ z → pos (rows_up z) ≡ z
rows_are (pos n) h = refl
rows_are (negsuc n) h = absurd (omega (arith, ints, h))

fewer_rows : (end y next : ℤ) → y <ℤ next → next ≤ℤ end → rows_up (end -ℤ next) + 1 ≤ rows_up (end -ℤ y)
fewer_rows end y next a b =
    let over = rows_are (end -ℤ next) (omega (arith, ints, b)) in
    let under = rows_are (end -ℤ y) (omega (arith, ints, a, b)) in
    omega (arith, ints, over, under, a)

less_by : (r s n v w : ℕ) → r + 1 ≤ s → v < n → r * n + v < s * n + w
less_by r s n v w a b = let m : (r + 1) * n ≤ s * n = mul-le-mul_right n a in omega arith

pub comes_less : (end y next : ℤ) (v w : ℕ) → y <ℤ next → next ≤ℤ end → v < 2 ^ 64 → still_to_come end next v < still_to_come end y w
unfolding still_to_come
comes_less end y next v w up within few = less_by (rows_up (end -ℤ next)) (rows_up (end -ℤ y)) (2 ^ 64) v w (fewer_rows end y next up within) few

nothing_by : (xs : List Trapezoid) → length xs ≡ 0 → xs ≡ []
nothing_by [] h = refl
nothing_by (x ∷ xs) h = absurd (omega (arith, h))

-- a queue whose first item is none has none
pub nothing_waits : (xs ys : List Trapezoid) → xs ≡ ys → ys ≡ drop 1 xs → ys ≡ []
nothing_waits xs ys e f = nothing_by ys (omega (arith, ap length e, ap length f, length-drop 1 xs))

pub one_less : (end y : ℤ) (whole : ℕ) (waiting rest : List Trapezoid) (z : Trapezoid) → waiting ≡ z ∷ rest
    → still_to_come end y (length waiting) ≤ whole → still_to_come end y (length rest) + 1 ≤ whole
unfolding still_to_come
one_less end y whole waiting rest z e fewer = let count = ap length e in omega (arith, count, fewer)

-- ---- below the window, and over a stop

module _ (pre : ℤ → ℤ → Type 0) (post : ℤ → ℤ → Bool → Type 0) (rule : IsRule pre post) where
  pub begun : {E : Type 0} (left : E → List Event) (edges ps : List EdgeParts) (window : RowRange) (p : Progress E) → ps ≡ parts_in window edges
      → IsBalanced edges window → p.window ≡ window → IsBelowAll left ps window p → HasComeTo left post edges p []
  begun left edges ps window p same balanced in_window below =
      let all = parts_in window edges in
      let events = left p.events in
      let known = subst (λ (es : List EdgeParts). AreEventsOf es events) same below.events in
      subst (λ (w : RowRange). IsSweptAbove post (parts_in w edges) w (p.from.y -ℤ pos 1) (items p.front.lines) events p.front.waiting.items) (sym in_window)
      (subst (λ (z : ℤ). IsSweptAbove post all window (z -ℤ pos 1) (items p.front.lines) events p.front.waiting.items) (sym below.from)
      (subst (λ (ls : List ActiveLine). IsSweptAbove post all window (window.y0 -ℤ pos 1) ls events p.front.waiting.items) (sym below.lines)
      (subst (λ (ws : List Trapezoid). IsSweptAbove post all window (window.y0 -ℤ pos 1) [] events ws) (sym below.waiting)
      (begins pre post rule all window events known.known (parts_inside window edges) known.short (stays_balanced window edges balanced) below.rows
      known.whole known.ascend))))

  -- above the stop each later one is at a Y above the stop's
  pub gone_on : (edges : List EdgeParts) (window : RowRange) (y from : ℤ) (lines next : List ActiveLine) (left rest : List Event)
      (given waiting waiting1 : List Trapezoid) (come : IsSweptAbove post edges window y lines left (given ++ waiting)) (stop : Stop)
      (is : IsStopAt lines left stop) → IsAboveStop edges stop.level.y next rest → SettlesStop post stop.level.y lines waiting next waiting1
      → from ≡ stop.level.y +ℤ pos 1 → IsSweptAbove post edges window (from -ℤ pos 1) next rest (given ++ waiting1)
  gone_on edges window y from lines next left rest given waiting waiting1 come stop is now settles e =
      subst (λ (z : ℤ). IsSweptAbove post edges window z next rest (given ++ waiting1)) (level_of stop.level.y from e)
      (goes_on pre post rule edges window y lines left (given ++ waiting) come stop is next rest waiting waiting1 now settles given refl)
    where
      level_of : (z from : ℤ) → from ≡ z +ℤ pos 1 → z ≡ from -ℤ pos 1
      level_of z from e = omega (arith, ints, e)

  pub gone_less : (edges : List EdgeParts) (window : RowRange) (y from : ℤ) (lines : List ActiveLine) (left : List Event)
      (given : List Trapezoid) (come : IsSweptAbove post edges window y lines left given) (stop : Stop)
      (is : IsStopAt lines left stop) → from ≡ stop.level.y +ℤ pos 1 → (v w : ℕ) → v < 2 ^ 64
      → still_to_come window.y1 (from -ℤ pos 1) v < still_to_come window.y1 y w
  gone_less edges window y from lines left given come stop is e v w few =
      let lt = up pre post rule edges window y lines left given come stop is in
      let le = in_window pre post rule edges window y lines left given come stop is in
      comes_less window.y1 y (from -ℤ pos 1) v w (omega (arith, ints, lt, e)) (omega (arith, ints, le, e)) few

-- ---- an equal rule

pub moved_given : {R F : Type 0} (post : R → ℤ → ℤ → Bool → Type 0) (r s : R) (edges : List EdgeParts) (state : SweepState F)
    (given : List Trapezoid) → r ≡ s → HasGiven (post r) edges state given → HasGiven (post s) edges state given
moved_given post r s edges state given e h = subst (λ u. HasGiven (post u) edges state given) e h
