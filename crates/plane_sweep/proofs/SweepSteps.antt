-- A sweep from below its window to the window's top, stop by stop.
use Rattle.std.proofs.Common.{ℤ, pos, ◌^◌, ◌≤◌, ◌≡◌, ◌+ℤ◌, ◌-ℤ◌, ◌≤ℤ◌, ◌<ℤ◌, ◌⊎◌, inl, inr, Bool, false, List, [], ◌∷◌, ◌++◌, map, length}
use Rattle.std.proofs.Common.{Some, None, All, append_assoc, arith, refl, ap, sym, subst, ◌∙◌}
use Rattle.std.specs.Prelude.{IsPermutation}
use Rattle.std.proofs.lemmas.Int.{ints, by_lt_z}
use Rattle.std.proofs.lemmas.List.Elements.{All-nil, All-cons, All-head, All-tail}
use Rattle.std.proofs.lemmas.List.Sorted.{All-permutation}
use Rattle.half_grid.specs.Edges.{EdgeParts, IsEdge}
use Rattle.half_grid.specs.Reach.{IsWithinReach}
use Rattle.half_grid.specs.Trapezoids.{Trapezoid, IsShot}
use Rattle.half_grid.specs.Windows.{RowRange, IsWindow}
use Rattle.scan_line.specs.Rules.{IsRule}
use Rattle.scan_line.specs.Runs.{IsBalanced}
use Rattle.trap_join.specs.Fronts.{ended_at}
use Rattle.trap_join.specs.Joins.{IsJoinedSoFar}
use Rattle.active_lines.specs.declared.item.ActiveLine.{ActiveLine}
use Rattle.active_lines.specs.declared.item.Windings.{Windings}
use Rattle.active_lines.specs.Neighbours.{SomeMeeting}
use Rattle.row_lists.specs.declared.event.Event.{Event}
use Rattle.row_lists.specs.Events.{begin_of, end_of, events_of, EventsAscend}
use Rattle.row_lists.specs.Weights.{IsOutside, NoEnds, NoneSpans}
use Rattle.row_lists.specs.RowLists.{IsRowList, AreAlike, no_windings}
use Rattle.row_lists.specs.RowRuns.{last_windings, runs_of}
use Rattle.row_lists.proofs.ForCallers.{none_in_empty_row, one_row_list}
use Rattle.plane_sweep.specs.declared.next_stop.Stop.{Stop}
use Rattle.plane_sweep.specs.Bundles.{first_event}
use Rattle.plane_sweep.specs.NextStops.{IsStopAt}
use Rattle.plane_sweep.specs.RuleTests.{IsTest}
use Rattle.plane_sweep.specs.Settled.{IsSettled}
use Rattle.plane_sweep.specs.StopRuns.{growing_of}
use Rattle.plane_sweep.specs.StopSettles.{SettlesStop}
use Rattle.plane_sweep.specs.Stops.{IsBelowStop, IsAboveStop}
use Rattle.plane_sweep.specs.Sweeps.{StandsAbove, AreInside, IsSweptAbove}
use Rattle.plane_sweep.proofs.Balance.{row_balanced}
use Rattle.plane_sweep.proofs.FirstLast.{stop_opened}
use Rattle.plane_sweep.proofs.NextStop.{first_joins, stop_shots, next_joins, all_joined}
use Rattle.plane_sweep.proofs.RuleAsTest.{rule_test, test_nothing}
use Rattle.plane_sweep.proofs.StopsAbove.{is_above, is_below, is_within, ends, apart, none_ends, stays_above, first_left, rest_events}

-- ---- edges inside the window

module _ (window : RowRange) where
  over : (edges : List EdgeParts) → AreInside window edges → All (λ e. window.y0 ≤ℤ e.y0) edges
  over [] h = All-nil (λ (e : EdgeParts). window.y0 ≤ℤ e.y0)
  over (e ∷ edges) h =
      let P : EdgeParts → Type 0 = λ f. (window.y0 ≤ℤ f.y0) × (f.y1 ≤ℤ window.y1) in
      All-cons (λ (f : EdgeParts). window.y0 ≤ℤ f.y0) e edges (All-head P e edges h).0 (over edges (All-tail P e edges h))

  none_below : (edges : List EdgeParts) (j : ℤ) → j <ℤ window.y0 → AreInside window edges → NoneSpans edges j
  none_below [] j lt h = All-nil (λ (e : EdgeParts). (j <ℤ e.y0) ⊎ (e.y1 ≤ℤ j))
  none_below (e ∷ edges) j lt h =
      let P : EdgeParts → Type 0 = λ f. (window.y0 ≤ℤ f.y0) × (f.y1 ≤ℤ window.y1) in
      let here = (All-head P e edges h).0 in
      All-cons (λ (f : EdgeParts). (j <ℤ f.y0) ⊎ (f.y1 ≤ℤ j)) e edges (inl (omega (arith, ints, lt, here))) (none_below edges j lt (All-tail P e edges h))

  none_above : (edges : List EdgeParts) (j : ℤ) → window.y1 ≤ℤ j → AreInside window edges → NoneSpans edges j
  none_above [] j le h = All-nil (λ (e : EdgeParts). (j <ℤ e.y0) ⊎ (e.y1 ≤ℤ j))
  none_above (e ∷ edges) j le h =
      let P : EdgeParts → Type 0 = λ f. (window.y0 ≤ℤ f.y0) × (f.y1 ≤ℤ window.y1) in
      let here = (All-head P e edges h).1 in
      All-cons (λ (f : EdgeParts). (j <ℤ f.y0) ⊎ (f.y1 ≤ℤ j)) e edges (inr (omega (arith, ints, le, here))) (none_above edges j le (All-tail P e edges h))

  -- their events are in the window
  events_within : (edges : List EdgeParts) → All IsEdge edges → AreInside window edges → All (λ e. (window.y0 ≤ℤ e.y) × (e.y ≤ℤ window.y1)) (events_of edges)
  events_within [] known h = All-nil (λ (e : Event). (window.y0 ≤ℤ e.y) × (e.y ≤ℤ window.y1))
  events_within (e ∷ edges) known h =
      let P : EdgeParts → Type 0 = λ f. (window.y0 ≤ℤ f.y0) × (f.y1 ≤ℤ window.y1) in
      let Q : Event → Type 0 = λ f. (window.y0 ≤ℤ f.y) × (f.y ≤ℤ window.y1) in
      let here = All-head P e edges h in
      let low = here.0 in
      let high = here.1 in
      let rows = (All-head IsEdge e edges known).has_rows in
      All-cons Q (begin_of e) (end_of e ∷ events_of edges) (low, omega (arith, ints, rows, high))
      (All-cons Q (end_of e) (events_of edges) (omega (arith, ints, rows, low), high)
      (events_within edges (All-tail IsEdge e edges known) (All-tail P e edges h)))

none_like : (lines : List ActiveLine) → AreAlike lines [] → lines ≡ []
none_like [] h = refl
none_like (l ∷ lines) h = absurd h

-- a row that no edge spans has no lines
no_lines : (edges : List EdgeParts) (j : ℤ) (lines : List ActiveLine) → NoneSpans edges j → IsRowList edges j lines → lines ≡ []
no_lines edges j lines none list = none_like lines (one_row_list edges j lines [] list (none_in_empty_row edges j none))

-- between a row and itself no edge has an end
no_room : (y z : ℤ) → IsOutside y ((y +ℤ pos 1) -ℤ pos 1) z
no_room y z = by_lt_z y z (λ lt. inr (omega (arith, ints, lt))) (λ le. inl le)

pub ends_nowhere : (y : ℤ) (edges : List EdgeParts) → NoEnds edges y ((y +ℤ pos 1) -ℤ pos 1)
ends_nowhere y [] = All-nil (λ e. IsOutside y ((y +ℤ pos 1) -ℤ pos 1) e.y0 × IsOutside y ((y +ℤ pos 1) -ℤ pos 1) e.y1)
ends_nowhere y (e ∷ edges) =
    All-cons (λ f. IsOutside y ((y +ℤ pos 1) -ℤ pos 1) f.y0 × IsOutside y ((y +ℤ pos 1) -ℤ pos 1) f.y1) e edges (no_room y e.y0, no_room y e.y1)
    (ends_nowhere y edges)

-- ---- the sweep begins

all_above : (window : RowRange) (events : List Event) → All (λ e. (window.y0 ≤ℤ e.y) × (e.y ≤ℤ window.y1)) events
    → All (λ e. (window.y0 -ℤ pos 1) <ℤ e.y) events
all_above window [] h = All-nil (λ (e : Event). (window.y0 -ℤ pos 1) <ℤ e.y)
all_above window (e ∷ events) h =
    let Q : Event → Type 0 = λ f. (window.y0 ≤ℤ f.y) × (f.y ≤ℤ window.y1) in
    let here = (All-head Q e events h).0 in
    All-cons (λ (f : Event). (window.y0 -ℤ pos 1) <ℤ f.y) e events (omega (arith, ints, here)) (all_above window events (All-tail Q e events h))

module _ (pre : ℤ → ℤ → Type 0) (post : ℤ → ℤ → Bool → Type 0) (rule : IsRule pre post) (edges : List EdgeParts) (window : RowRange) where
  pub begins : (events : List Event) → All IsEdge edges → AreInside window edges → length edges ≤ 2 ^ 64 → IsBalanced edges window → IsWindow window
      → IsPermutation (events_of edges) events → EventsAscend events → IsSweptAbove post edges window (window.y0 -ℤ pos 1) [] events []
  begins events known inside short balanced is_window whole ascend = record {
    inside = inside;
    short = short;
    balanced = balanced;
    low = omega (arith, ints);
    high = omega (arith, ints, is_window);
    stands = λ takes is. (record {
      are_edges = known;
      list = none_in_empty_row edges (window.y0 -ℤ pos 1) (none_below window edges (window.y0 -ℤ pos 1) (omega (arith, ints)) inside);
      opened = tt;
      events = record {
        passed = [];
        whole = whole;
        ascend = ascend;
        below = All-nil (λ (e : Event). e.y ≤ℤ (window.y0 -ℤ pos 1));
        above = all_above window events
            (All-permutation (λ (e : Event). (window.y0 ≤ℤ e.y) × (e.y ≤ℤ window.y1)) (events_of edges) events whole
            (events_within window edges known inside));
      };
      joined = first_joins post takes edges window known is (test_nothing pre post rule takes is) short (over window edges inside);
    });
    top = λ at. absurd (omega (arith, ints, at, is_window));
  }

  module _ (y : ℤ) (lines : List ActiveLine) (left : List Event) (given : List Trapezoid) (swept : IsSweptAbove post edges window y lines left given) where
    test : (Windings → Bool)
    test = (rule_test pre post rule).0

    is_test : IsTest post test
    unfolding test
    is_test = (rule_test pre post rule).1

    here : StandsAbove post test edges window y lines left given
    here = swept.stands test is_test

    pub above : IsAboveStop edges y lines left
    above = record { known = here.are_edges; list = here.list; events = here.events }

    -- ---- no stop is left

    module _ (none : first_event left ≡ None) (alone : (z : ℤ) → SomeMeeting lines z → ⊥) where
      at_top : lines ≡ []
      at_top =
          no_lines edges window.y1 lines (none_above window edges window.y1 (omega (arith, ints)) swept.inside)
          (stays_above edges y lines left above none alone window.y1 swept.high)

      pub all_given : IsJoinedSoFar post edges window window.y1 given []
      all_given =
          by_lt_z y window.y1
          (λ lt. subst (λ (ls : List ActiveLine). IsJoinedSoFar post edges window window.y1 given (map (ended_at window.y1) (growing_of ls))) at_top
          (here.joined window.y1 lt (omega (arith, ints)) (none_ends edges y lines left above none (window.y1 -ℤ pos 1)) (λ z over le s. alone z s)))
          (λ le. (let high = swept.high in
          let same : y ≡ window.y1 = omega (arith, ints, high, le) in
          subst (λ (z : ℤ). IsJoinedSoFar post edges window z given []) same (swept.top same)))

    -- ---- the next stop

    module _ (stop : Stop) (is : IsStopAt lines left stop) where
      pub up : y <ℤ stop.level.y
      up = is_above edges y lines left above stop is

      pub reach : IsWithinReach stop.level.y
      reach = is_within edges y lines left above stop is

      pub below : IsBelowStop edges stop.level.y lines left
      below = is_below edges y lines left above stop is

      left_within : All (λ (e : Event). (window.y0 ≤ℤ e.y) × (e.y ≤ℤ window.y1)) left
      left_within =
          let Q : Event → Type 0 = λ e. (window.y0 ≤ℤ e.y) × (e.y ≤ℤ window.y1) in
          rest_events Q here.events.passed left
          (All-permutation Q (events_of edges) (here.events.passed ++ left) here.events.whole (events_within window edges here.are_edges swept.inside))

      over_by : window.y1 <ℤ stop.level.y → lines ≡ []
          → ((e : Event) × (first_event left ≡ Some e) × (e.y ≡ stop.level.y)) ⊎ SomeMeeting lines stop.level.y → ⊥
      over_by over none (inl k) =
          let le = (first_left (λ (e : Event). (window.y0 ≤ℤ e.y) × (e.y ≤ℤ window.y1)) left k.0 left_within k.1).1 in
          let at = k.2 in
          absurd (omega (arith, ints, over, le, at))
      over_by over none (inr s) = subst (λ (ls : List ActiveLine). SomeMeeting ls stop.level.y) none s

      pub in_window : stop.level.y ≤ℤ window.y1
      in_window =
          by_lt_z window.y1 stop.level.y
          (λ over. absurd (over_by over
          (no_lines edges (stop.level.y -ℤ pos 1) lines
          (none_above window edges (stop.level.y -ℤ pos 1) (omega (arith, ints, over)) swept.inside) below.list) is.why))
          (λ le. le)

      -- right of all lines nothing is taken, below the stop and above it
      old_shut : (takes : Windings → Bool) → IsTest post takes → takes (last_windings no_windings lines) ≡ false
      old_shut takes is_test =
          let nothing = test_nothing pre post rule takes is_test in
          let lt = up in
          let high = in_window in
          by_lt_z y window.y0
          (λ low. ap (λ (ls : List ActiveLine). takes (last_windings no_windings ls))
          (no_lines edges y lines (none_below window edges y low swept.inside) here.list) ∙ nothing)
          (λ low. ap takes (row_balanced edges window y lines swept.balanced low (omega (arith, ints, lt, high)) here.list) ∙ nothing)

      none_at_top : (next : List ActiveLine) → IsRowList edges stop.level.y next → window.y1 ≤ℤ stop.level.y → next ≡ []
      none_at_top next list le = no_lines edges stop.level.y next (none_above window edges stop.level.y le swept.inside) list

      new_shut : (takes : Windings → Bool) → IsTest post takes → (next : List ActiveLine) → IsRowList edges stop.level.y next
          → takes (last_windings no_windings next) ≡ false
      new_shut takes is_test next list =
          let nothing = test_nothing pre post rule takes is_test in
          let lt = up in
          let low = swept.low in
          by_lt_z stop.level.y window.y1
          (λ high. ap takes (row_balanced edges window stop.level.y next swept.balanced (omega (arith, ints, lt, low)) high list) ∙ nothing)
          (λ le. ap (λ (ls : List ActiveLine). takes (last_windings no_windings ls)) (none_at_top next list le) ∙ nothing)

      shots : (takes : Windings → Bool) → IsTest post takes → All (λ g. IsShot (ended_at stop.level.y g)) (growing_of lines)
      shots takes is_test =
          stop_shots post takes edges window here.are_edges is_test (test_nothing pre post rule takes is_test) swept.short swept.balanced
          y stop.level.y lines lines given [] (swept.stands takes is_test).joined up in_window
          (ends edges y lines left above stop is) (apart edges y lines left above stop is)

      module _ (next : List ActiveLine) (rest : List Event) (waiting waiting1 : List Trapezoid) (now : IsAboveStop edges stop.level.y next rest)
          (settles : SettlesStop post stop.level.y lines waiting next waiting1) where
        settled : (takes : Windings → Bool) → IsTest post takes
            → (done : List Trapezoid) × (waiting1 ≡ waiting ++ done)
            × IsSettled stop.level.y (growing_of lines) (runs_of takes false next) (growing_of next) done
        settled takes is_test =
            settles takes is_test (test_nothing pre post rule takes is_test) (old_shut takes is_test) (new_shut takes is_test next now.list)
            (swept.stands takes is_test).opened (shots takes is_test)

        module _ (before : List Trapezoid) (are : given ≡ before ++ waiting) where
          put : (done : List Trapezoid) → waiting1 ≡ waiting ++ done → given ++ done ≡ before ++ waiting1
          put done e =
              ap (λ (zs : List Trapezoid). zs ++ done) are ∙ (append_assoc before waiting done ∙ ap (λ (zs : List Trapezoid). before ++ zs) (sym e))

          stands_on : (takes : Windings → Bool) → IsTest post takes → StandsAbove post takes edges window stop.level.y next rest (before ++ waiting1)
          stands_on takes is_test =
              let k = settled takes is_test in
              record {
                are_edges = here.are_edges;
                list = now.list;
                opened = stop_opened takes stop.level.y (growing_of lines) next k.0 now.list.ascend k.2;
                events = now.events;
                joined = λ top higher within no_ends no_meetings.
                    subst (λ (zs : List Trapezoid). IsJoinedSoFar post edges window top zs (map (ended_at top) (growing_of next))) (put k.0 k.1)
                    (next_joins post takes edges window here.are_edges is_test (test_nothing pre post rule takes is_test) swept.short
                    swept.balanced y stop.level.y lines next given k.0 (swept.stands takes is_test).joined up in_window
                    (ends edges y lines left above stop is) (apart edges y lines left above stop is) now.list k.2 top higher within no_ends no_meetings);
              }

          pub goes_on : IsSweptAbove post edges window stop.level.y next rest (before ++ waiting1)
          goes_on =
              let lt = up in
              let low = swept.low in
              record {
                inside = swept.inside;
                short = swept.short;
                balanced = swept.balanced;
                low = omega (arith, ints, lt, low);
                high = in_window;
                stands = stands_on;
                top = λ at.
                    (let k = settled test is_test in
                    subst (λ (zs : List Trapezoid). IsJoinedSoFar post edges window stop.level.y zs []) (put k.0 k.1)
                    (all_joined post test edges window here.are_edges is_test (test_nothing pre post rule test is_test) swept.short swept.balanced
                    y stop.level.y lines next given k.0 here.joined up in_window
                    (ends edges y lines left above stop is) (apart edges y lines left above stop is) at
                    (none_at_top next now.list (omega (arith, ints, at))) k.2));
              }

    -- ---- what was given so far is joined

    pub some_joined : (top : ℤ) × (front : List Trapezoid) × IsJoinedSoFar post edges window top given front
    some_joined =
        by_lt_z y window.y1
        (λ lt. (
          y +ℤ pos 1,
          map (ended_at (y +ℤ pos 1)) (growing_of lines),
          here.joined (y +ℤ pos 1) (omega (arith, ints)) (omega (arith, ints, lt)) (ends_nowhere y edges)
              (λ z over le s. absurd (omega (arith, ints, over, le))),
        ))
        (λ le. (let high = swept.high in let same : y ≡ window.y1 = omega (arith, ints, high, le) in (y, [], swept.top same)))
