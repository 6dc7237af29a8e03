-- From one stop to the next: between them the list stays the row list of each row.
use Rattle.std.proofs.Common.{ℤ, pos, ◌≡◌, ◌-ℤ◌, ◌≤ℤ◌, ◌<ℤ◌, ◌⊎◌, inl, inr, List, [], ◌∷◌}
use Rattle.std.proofs.Common.{◌++◌, Some, None, All, arith, refl, sym, subst}
use Rattle.std.specs.Prelude.{IsPermutation}
use Rattle.std.specs.Int.{int_min}
use Rattle.std.proofs.lemmas.Int.{ints, clamps}
use Rattle.std.proofs.lemmas.List.Elements.{All-nil, All-cons, All-head, All-tail, All-append, All-weaker, All-contains}
use Rattle.std.proofs.lemmas.List.Sorted.{All-permutation, IsPermutation-sym}
use Rattle.half_grid.specs.Edges.{EdgeParts, IsEdge}
use Rattle.half_grid.specs.Reach.{IsWithinReach}
use Rattle.half_grid.specs.Rows.{place}
use Rattle.scan_line.proofs.ForCallers.{y_within}
use Rattle.active_lines.specs.declared.item.ActiveLine.{ActiveLine}
use Rattle.active_lines.specs.Neighbours.{SomeMeeting}
use Rattle.active_lines.proofs.ForCallers.{meets_where_it_leans}
use Rattle.row_lists.specs.declared.event.Event.{Event}
use Rattle.row_lists.specs.Weights.{IsOutside, NoEnds, NoneSpans}
use Rattle.row_lists.specs.RowLists.{IsRowList, AscendIn, NoMeetings}
use Rattle.row_lists.specs.Events.{begin_of, end_of, events_of, ComesBefore, EventsAscend}
use Rattle.row_lists.proofs.ForCallers.{stays_until_stop, none_in_empty_row}
use Rattle.plane_sweep.specs.declared.next_stop.Stop.{Stop}
use Rattle.plane_sweep.specs.Bundles.{first_event}
use Rattle.plane_sweep.specs.Stops.{IsBelowStop, IsAboveStop}
use Rattle.plane_sweep.specs.NextStops.{IsStopAt}
use Rattle.plane_sweep.specs.RowSweeps.{RowSweepState, GoesUp}
use Rattle.plane_sweep.proofs.SlabRuns.{from_by, below_by}
use Rattle.plane_sweep.proofs.Within.{StandsThere, row_list_edges}

-- ---- the stop is above

some_meeting : (y0 y : ℤ) (lines : List ActiveLine) → AscendIn y0 lines → SomeMeeting lines y → y0 <ℤ y
some_meeting y0 y [] ascend s = absurd s
some_meeting y0 y (l ∷ []) ascend s = absurd s
some_meeting y0 y (l ∷ m ∷ lines) ascend (inl k) =
    meets_where_it_leans l.line m.line y0 y (All-head (λ n. place l.line y0 <ℤ place n.line y0) m lines ascend.0) k.here k.closing
some_meeting y0 y (l ∷ m ∷ lines) ascend (inr k) = some_meeting y0 y (m ∷ lines) ascend.1 k

pub first_left : (P : Event → Type 0) (events : List Event) (e : Event) → All P events → first_event events ≡ Some e → P e
first_left P [] e h f = absurd (let clash : ⊥ = cc in clash)
first_left P (d ∷ events) e h f = (let same : d ≡ e = cc in subst P same (All-head P d events h))

-- all that are left are from the stop on
from_stop : (y : ℤ) (events : List Event) → EventsAscend events → ((e : Event) → first_event events ≡ Some e → y ≤ℤ e.y) → All (λ e. y ≤ℤ e.y) events
from_stop y [] ascend h = All-nil (λ (e : Event). y ≤ℤ e.y)
from_stop y (e ∷ events) ascend h =
    let first = h e refl in
    All-cons (λ (f : Event). y ≤ℤ f.y) e events first (All-weaker (ComesBefore e) (λ (f : Event). y ≤ℤ f.y) (λ f k. later f k first) events ascend.0)
  where
    later : (f : Event) → ComesBefore e f → y ≤ℤ e.y → y ≤ℤ f.y
    later f (inl lt) le = omega (arith, ints, lt, le)
    later f (inr k) le = (let same = k.0 in omega (arith, ints, same, le))

no_ends : (y0 k : ℤ) (edges : List EdgeParts) → All (λ (e : Event). IsOutside y0 k e.y) (events_of edges) → NoEnds edges y0 k
no_ends y0 k [] h = All-nil (λ e. IsOutside y0 k e.y0 × IsOutside y0 k e.y1)
no_ends y0 k (e ∷ edges) h =
    let rest = All-tail (λ (f : Event). IsOutside y0 k f.y) (begin_of e) (end_of e ∷ events_of edges) h in
    All-cons (λ f. IsOutside y0 k f.y0 × IsOutside y0 k f.y1) e edges (
      All-head (λ (f : Event). IsOutside y0 k f.y) (begin_of e) (end_of e ∷ events_of edges) h,
      All-head
          (λ (f : Event). IsOutside y0 k f.y) (end_of e) (events_of edges) rest,
    )
    (no_ends y0 k edges (All-tail (λ (f : Event). IsOutside y0 k f.y) (end_of e) (events_of edges) rest))

y_reach : (edges : List EdgeParts) → All IsEdge edges → All (λ (e : Event). IsWithinReach e.y) (events_of edges)
y_reach [] known = All-nil (λ (e : Event). IsWithinReach e.y)
y_reach (e ∷ edges) known =
    let first = All-head IsEdge e edges known in
    All-cons (λ (f : Event). IsWithinReach f.y) (begin_of e) (end_of e ∷ events_of edges) first.y0
    (All-cons (λ (f : Event). IsWithinReach f.y) (end_of e) (events_of edges) first.y1 (y_reach edges (All-tail IsEdge e edges known)))

pub rest_events : (P : Event → Type 0) (xs ys : List Event) → All P (xs ++ ys) → All P ys
rest_events P [] ys h = h
rest_events P (x ∷ xs) ys h = rest_events P xs ys (All-tail P x (xs ++ ys) h)

some_line : (lines : List ActiveLine) (y : ℤ) → SomeMeeting lines y → (l : ActiveLine) × (rest : List ActiveLine) × (lines ≡ l ∷ rest)
some_line [] y s = absurd s
some_line (l ∷ lines) y s = (l, lines, refl)

module _ (edges : List EdgeParts) (y0 : ℤ) (lines : List ActiveLine) (events : List Event)
    (above : IsAboveStop edges y0 lines events) (stop : Stop) (is : IsStopAt lines events stop) where
  up_by : ((e : Event) × (first_event events ≡ Some e) × (e.y ≡ stop.level.y)) ⊎ SomeMeeting lines stop.level.y → y0 <ℤ stop.level.y
  up_by (inl k) = (let lt = first_left (λ e. y0 <ℤ e.y) events k.0 above.events.above k.1 in let at = k.2 in omega (arith, ints, lt, at))
  up_by (inr s) = some_meeting y0 stop.level.y lines above.list.ascend s

  pub is_above : y0 <ℤ stop.level.y
  is_above = up_by is.why

  from : All (λ e. stop.level.y ≤ℤ e.y) events
  from = from_stop stop.level.y events above.events.ascend is.event

  pub ends : NoEnds edges y0 (stop.level.y -ℤ pos 1)
  ends =
      no_ends y0 (stop.level.y -ℤ pos 1) edges
      (All-permutation (λ (e : Event). IsOutside y0 (stop.level.y -ℤ pos 1) e.y) (above.events.passed ++ events) (events_of edges)
      (IsPermutation-sym (events_of edges) (above.events.passed ++ events) above.events.whole)
      (All-append (λ (e : Event). IsOutside y0 (stop.level.y -ℤ pos 1) e.y) above.events.passed events
      (All-weaker (λ (e : Event). e.y ≤ℤ y0) (λ (e : Event). IsOutside y0 (stop.level.y -ℤ pos 1) e.y) (λ e le. inl le) above.events.passed above.events.below)
      (All-weaker (λ (e : Event). stop.level.y ≤ℤ e.y) (λ (e : Event). IsOutside y0 (stop.level.y -ℤ pos 1) e.y)
      (λ e le. inr (omega (arith, ints, le))) events from)))

  pub apart : NoMeetings lines y0 (stop.level.y -ℤ pos 1)
  apart z over up s = (let le = is.meeting z s in absurd (omega (arith, ints, le, up)))

  pub is_below : IsBelowStop edges stop.level.y lines events
  is_below =
      let lt = is_above in
      record {
        known = above.known;
        list = stays_until_stop edges y0 (stop.level.y -ℤ pos 1) lines above.list (omega (arith, ints, lt)) ends apart;
        events = record {
          passed = above.events.passed;
          whole = above.events.whole;
          ascend = above.events.ascend;
          below = All-weaker (λ (e : Event). e.y ≤ℤ y0) (λ (e : Event). e.y ≤ℤ (stop.level.y -ℤ pos 1))
              (λ e le. omega (arith, ints, lt, le)) above.events.passed above.events.below;
          above = All-weaker (λ (e : Event). stop.level.y ≤ℤ e.y) (λ (e : Event). (stop.level.y -ℤ pos 1) <ℤ e.y) (λ e le. omega (arith, ints, le)) events from;
        };
      }

  reach_by : ((e : Event) × (first_event events ≡ Some e) × (e.y ≡ stop.level.y)) ⊎ SomeMeeting lines stop.level.y → IsWithinReach stop.level.y
  reach_by (inl k) =
      subst IsWithinReach k.2
      (first_left (λ (e : Event). IsWithinReach e.y) events k.0
      (rest_events (λ (e : Event). IsWithinReach e.y) above.events.passed events
      (All-permutation (λ (e : Event). IsWithinReach e.y) (events_of edges)
      (above.events.passed ++ events) above.events.whole (y_reach edges above.known))) k.1)
  reach_by (inr s) =
      let row = stop.level.y -ℤ pos 1 in
      let some = some_line lines stop.level.y s in
      let there = All-head (λ l. StandsThere edges row (place l.line row)) some.0 some.1
      (subst (All (λ l. StandsThere edges row (place l.line row))) some.2 (row_list_edges edges row lines is_below.list)) in
      let edge : IsEdge there.edge = All-contains IsEdge edges there.edge above.known there.has in
      let low = from_by there.edge row there.spanning in
      let high = below_by there.edge row there.spanning in
      y_within there.edge stop.level.y edge (omega (arith, ints, low)) (omega (arith, ints, high))

  pub is_within : IsWithinReach stop.level.y
  is_within = reach_by is.why

-- ---- where none is left

none_left : (events : List Event) → first_event events ≡ None → events ≡ []
none_left [] h = refl
none_left (e ∷ events) h = absurd (let clash : ⊥ = cc in clash)

pub none_ends : (edges : List EdgeParts) (y : ℤ) (lines : List ActiveLine) (events : List Event)
    → IsAboveStop edges y lines events → first_event events ≡ None → (k : ℤ) → NoEnds edges y k
none_ends edges y lines events above none k =
    no_ends y k edges
    (All-permutation (λ (e : Event). IsOutside y k e.y) (above.events.passed ++ events) (events_of edges)
    (IsPermutation-sym (events_of edges) (above.events.passed ++ events) above.events.whole)
    (All-append (λ (e : Event). IsOutside y k e.y) above.events.passed events
    (All-weaker (λ (e : Event). e.y ≤ℤ y) (λ (e : Event). IsOutside y k e.y) (λ e le. inl le) above.events.passed above.events.below)
    (subst (All (λ (e : Event). IsOutside y k e.y)) (sym (none_left events none)) (All-nil (λ (e : Event). IsOutside y k e.y)))))

pub stays_above : (edges : List EdgeParts) (y : ℤ) (lines : List ActiveLine) (events : List Event)
    → IsAboveStop edges y lines events → first_event events ≡ None
    → ((z : ℤ) → SomeMeeting lines z → ⊥) → (k : ℤ) → y ≤ℤ k → IsRowList edges k lines
stays_above edges y lines events above none apart k up =
    stays_until_stop edges y k lines above.list up (none_ends edges y lines events above none k) (λ z over le s. apart z s)

-- ---- below all

bottom : List Event → ℤ
bottom [] = pos 0
bottom (e ∷ events) = int_min (e.y -ℤ pos 1) (bottom events)

all_over : (y : ℤ) (events : List Event) → y ≤ℤ bottom events → All (λ e. y <ℤ e.y) events
unfolding bottom
all_over y [] h = All-nil (λ (e : Event). y <ℤ e.y)
all_over y (e ∷ events) h =
    All-cons (λ (f : Event). y <ℤ f.y) e events (omega (arith, ints, clamps, h)) (all_over y events (omega (arith, ints, clamps, h)))

none_spans : (y : ℤ) (edges : List EdgeParts) → All (λ (e : Event). y <ℤ e.y) (events_of edges) → NoneSpans edges y
none_spans y [] h = All-nil (λ e. (y <ℤ e.y0) ⊎ (e.y1 ≤ℤ y))
none_spans y (e ∷ edges) h =
    let rest = All-tail (λ (f : Event). y <ℤ f.y) (begin_of e) (end_of e ∷ events_of edges) h in
    All-cons (λ f. (y <ℤ f.y0) ⊎ (f.y1 ≤ℤ y)) e edges (inl (All-head (λ (f : Event). y <ℤ f.y) (begin_of e) (end_of e ∷ events_of edges) h))
    (none_spans y edges (All-tail (λ (f : Event). y <ℤ f.y) (end_of e) (events_of edges) rest))

pub below_all : (edges : List EdgeParts) (events : List Event) → All IsEdge edges
    → IsPermutation (events_of edges) events → EventsAscend events → (y : ℤ) × IsAboveStop edges y [] events
below_all edges events known whole ascend =
    let y = bottom events in
    let over : All (λ (e : Event). y <ℤ e.y) events = all_over y events (omega (arith, ints)) in (
      y,
      record {
        known = known;
        list = none_in_empty_row edges y
            (none_spans y edges (All-permutation (λ (e : Event). y <ℤ e.y) events (events_of edges)
            (IsPermutation-sym (events_of edges) events whole) over));
        events = record { passed = []; whole = whole; ascend = ascend; below = All-nil (λ (e : Event). e.y ≤ℤ y); above = over };
      },
    )

-- ---- to the next stop

pub goes_up : (edges : List EdgeParts) (y : ℤ) (lines : List ActiveLine) (events : List Event) (stop : Stop)
    (after : RowSweepState) → (above : IsAboveStop edges y lines events) → IsStopAt lines events stop
    → IsAboveStop edges stop.level.y after.lines after.left → GoesUp edges y (record { lines = lines; left = events }) after stop.level.y
goes_up edges y lines events stop after above is now = record {
  up = is_above edges y lines events above stop is;
  none = ends edges y lines events above stop is;
  apart = apart edges y lines events above stop is;
  above = now;
}
