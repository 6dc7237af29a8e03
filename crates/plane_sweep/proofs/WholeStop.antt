-- One point after the other of a stop.
use Rattle.std.proofs.Common.{ℕ, ℤ, pos, zero, suc, ◌≡◌, ◌≢◌, ◌+◌, ◌<◌, ◌≤◌, ◌+ℤ◌, ◌-ℤ◌, ◌≤ℤ◌, ◌<ℤ◌, ◌⊎◌, inl, inr}
use Rattle.std.proofs.Common.{if◌then◌else◌, int_le, Bool, true, false, List, [], ◌∷◌, ◌++◌, length, slice_index_or}
use Rattle.std.proofs.Common.{Option, Some, None, All, append_assoc, arith, refl, ap, sym, subst, ◌∙◌}
use Rattle.std.specs.List.{Contains}
use Rattle.std.proofs.lemmas.Int.{ints, by_lt_z}
use Rattle.std.proofs.lemmas.List.{length-append}
use Rattle.std.proofs.lemmas.List.Elements.{All-nil, All-cons, All-head, All-tail, All-append, All-weaker, All-contains, Contains-append_cases}
use Rattle.std.proofs.lemmas.List.Sorted.{All-permutation}
use Rattle.half_grid.specs.Edges.{EdgeParts, IsEdge}
use Rattle.half_grid.specs.Lines.{x_on}
use Rattle.half_grid.specs.Reach.{IsWithinReach}
use Rattle.half_grid.specs.declared.plane.Point.{Point}
use Rattle.half_grid.proofs.ForCallers.{le_yes, le_no}
use Rattle.active_lines.specs.declared.item.ActiveLine.{ActiveLine}
use Rattle.active_lines.specs.ActiveLists.{ActiveList, active_list, items}
use Rattle.active_lines.specs.Points.{AscendAt}
use Rattle.row_lists.specs.declared.event.Event.{Event}
use Rattle.row_lists.specs.RowLists.{no_windings}
use Rattle.row_lists.specs.Halfway.{PassAtOrRight}
use Rattle.row_lists.specs.Events.{begin_of, end_of, events_of, ComesBefore, EventsAscend}
use Rattle.plane_sweep.specs.declared.point.Sides.{Sides}
use Rattle.plane_sweep.specs.Bundles.{first_event, BeginsElsewhere}
use Rattle.plane_sweep.specs.Stops.{IsLeft, IsAt, AreWithin, MeetFrom, EventsFrom, MeetingsFrom, IsUpTo, IsPassedUpTo}
use Rattle.plane_sweep.specs.Stops.{IsWithin, GoesOn, HasEnded, ComesTo, IsPassedThrough, HasLineAt, IsNextMeeting}
use Rattle.plane_sweep.specs.Stops.{IsMeetingPoint, IsEventPoint, nearer_of, IsFrom, MeetsAfter, IsBelowStop}
use Rattle.plane_sweep.specs.Stops.{IsAboveStop, IsOnWay, PassesLines, PassedEvents, PassedLines, PassesLinesOn}
use Rattle.plane_sweep.proofs.EventsPassed.{further_left}
use Rattle.plane_sweep.proofs.StopLemmas.{below_ascend, after_within, halfway_ascends}
use Rattle.plane_sweep.proofs.ComingTo.{begin_at, meets_by, stop_done}

-- ---- the next event

-- the first of the events is at the point
pub record IsFirstAt (y x : ℤ) (events : List Event) : Type 0 where
  pub e : Event
  pub first : first_event events ≡ Some e
  pub at_y : e.y ≡ y
  pub at_x : e.x ≡ x

left_again : (y x z : ℤ) (e f : Event) → IsLeft y z e → ComesBefore e f → IsLeft y z f
left_again y x z e f h k = further_left y z e f h k

from_first : (y z : ℤ) (e : Event) (events : List Event) → IsLeft y z e → EventsAscend (e ∷ events) → All (IsLeft y z) (e ∷ events)
from_first y z e events h ascend = All-cons (IsLeft y z) e events h (All-weaker (ComesBefore e) (IsLeft y z) (λ f k. further_left y z e f h k) events ascend.0)

above_by : (y x : ℤ) (e : Event) → IsLeft y x e → (e.y ≡ y → ⊥) → y <ℤ e.y
above_by y x e (inl lt) other = lt
above_by y x e (inr h) other = absurd (other h.0)

none_here : (y x z : ℤ) (events : List Event) → IsEventPoint y events None → All (IsLeft y x) events → EventsAscend events → All (IsLeft y z) events
none_here y x z [] h left ascend = All-nil (IsLeft y z)
none_here y x z (e ∷ events) h left ascend = from_first y z e events (inl (above_by y x e (All-head (IsLeft y x) e events left) (h e refl))) ascend

first_same : (events : List Event) (e : Event) → first_event events ≡ Some e → (rest : List Event) × (events ≡ e ∷ rest)
first_same [] e h = absurd (let clash : ⊥ = cc in clash)
first_same (f ∷ events) e h = (events, (let same : f ≡ e = cc in ap (λ (k : Event). k ∷ events) same))

some_here : (y : ℤ) (events : List Event) (p : Point) → IsEventPoint y events (Some p) → EventsAscend events → All (IsLeft y p.x) events
some_here y events p h ascend =
    let rest = first_same events h.0 h.1 in
    let at : p.x ≤ℤ h.0.x = (let e = h.3 in omega (arith, ints, e)) in
    subst (All (IsLeft y p.x)) (sym rest.1) (from_first y p.x h.0 rest.0 (inr (h.2, at)) (subst EventsAscend rest.1 ascend))

here_up : (y x : ℤ) (events : List Event) (p : Point) → IsEventPoint y events (Some p) → All (IsLeft y x) events → x ≤ℤ p.x
here_up y x events p h left =
    let rest = first_same events h.0 h.1 in
    up_by (All-head (IsLeft y x) h.0 rest.0 (subst (All (IsLeft y x)) rest.1 left))
  where
    up_by : IsLeft y x h.0 → x ≤ℤ p.x
    up_by (inl lt) = (let at = h.2 in absurd (omega (arith, ints, lt, at)))
    up_by (inr k) = (let le = k.1 in let e = h.3 in omega (arith, ints, le, e))

nearer_left : (y x z : ℤ) (events : List Event) → x ≤ℤ z → All (IsLeft y z) events → All (IsLeft y x) events
nearer_left y x z events le h = All-weaker (IsLeft y z) (IsLeft y x) (λ e k. one e k) events h
  where
    one : (e : Event) → IsLeft y z e → IsLeft y x e
    one e (inl lt) = inl lt
    one e (inr k) = let far = k.1 in inr (k.0, omega (arith, ints, le, far))

nearer_meet : (y x z : ℤ) (lines : List ActiveLine) → x ≤ℤ z → MeetFrom y z lines → MeetFrom y x lines
nearer_meet y x z [] le h = tt
nearer_meet y x z (l ∷ []) le h = tt
nearer_meet y x z (l ∷ m ∷ lines) le h = ((λ k. (let from = h.0 k in omega (arith, ints, le, from))), nearer_meet y x z (m ∷ lines) le h.1)

-- ---- the next point

pub record IsNext (y x : ℤ) (events : List Event) (lines : List ActiveLine) (meeting : Option Point) (n : Point) : Type 0 where
  pub at_y : n.y ≡ y
  pub none : All (IsLeft y n.x) events
  pub apart : MeetFrom y n.x lines
  pub from : IsFrom n.x meeting
  pub up : x ≤ℤ n.x
  pub why : IsFirstAt y n.x events ⊎ HasLineAt y n.x lines

meeting_up : (y x : ℤ) (q : Point) (lines : List ActiveLine) → HasLineAt y q.x lines → PassAtOrRight y x lines → x ≤ℤ q.x
meeting_up y x q lines h right = (let le = All-contains (λ l. x ≤ℤ x_on l.line y) lines h.0 right h.1 in let at = h.2 in omega (arith, ints, le, at))

module _ (y x : ℤ) (events : List Event) (lines : List ActiveLine) (left : All (IsLeft y x) events)
    (ascend : EventsAscend events) (right : PassAtOrRight y x lines) where
  by_event : (p : Point) (meeting : Option Point) → IsEventPoint y events (Some p) → MeetFrom y p.x lines
      → IsFrom p.x meeting → IsNext y x events lines meeting p
  by_event p meeting h apart from = record {
    at_y = h.4;
    none = some_here y events p h ascend;
    apart = apart;
    from = from;
    up = here_up y x events p h left;
    why = inl (record { e = h.0; first = h.1; at_y = h.2; at_x = sym h.3 });
  }

  by_meeting : (q : Point) → IsNextMeeting y (Some q) lines → All (IsLeft y q.x) events → IsNext y x events lines (Some q) q
  by_meeting q h none = record {
    at_y = h.0;
    none = none;
    apart = h.1;
    from = omega (arith, ints);
    up = meeting_up y x q lines h.2 right;
    why = inr h.2;
  }

  some_is : (n m : Point) → Some n ≡ Some m → n ≡ m
  some_is n m h = cc

  pub next_some : (ev meeting : Option Point) (n : Point) → IsEventPoint y events ev → IsNextMeeting y meeting lines
      → nearer_of ev meeting ≡ Some n → IsNext y x events lines meeting n
  next_some None None n h k e = absurd (let clash : ⊥ = cc in clash)
  next_some None (Some q) n h k e =
      subst (IsNext y x events lines (Some q)) (some_is q n e) (by_meeting q k (none_here y x q.x events h left ascend))
  next_some (Some p) None n h k e = subst (IsNext y x events lines None) (some_is p n e) (by_event p None h (k p.x) tt)
  next_some (Some p) (Some q) n h k e =
      by_lt_z q.x p.x
      (λ lt. (let no = le_no p.x q.x lt in
      subst (IsNext y x events lines (Some q)) (some_is q n (rw no at e))
      (by_meeting q k (nearer_left y q.x p.x events (omega (arith, ints, lt)) (some_here y events p h ascend)))))
      (λ le. (let yes = le_yes p.x q.x le in
      subst (IsNext y x events lines (Some q)) (some_is p n (rw yes at e)) (by_event p (Some q) h (nearer_meet y p.x q.x lines le k.1) le)))

  pub next_none : (ev meeting : Option Point) → IsEventPoint y events ev → IsNextMeeting y meeting lines → nearer_of ev meeting ≡ None
      → ((z : ℤ) → All (IsLeft y z) events) × ((z : ℤ) → MeetFrom y z lines)
  next_none None None h k e = ((λ z. none_here y x z events h left ascend), k)
  next_none None (Some q) h k e = absurd (let clash : ⊥ = cc in clash)
  next_none (Some p) None h k e = absurd (let clash : ⊥ = cc in clash)
  next_none (Some p) (Some q) h k e =
      by_lt_z q.x p.x
      (λ lt. (let no = le_no p.x q.x lt in none_some q (rw no at e)))
      (λ le. (let yes = le_yes p.x q.x le in none_some p (rw yes at e)))
    where
      none_some : (n : Point) → Some n ≡ None → ((z : ℤ) → All (IsLeft y z) events) × ((z : ℤ) → MeetFrom y z lines)
      none_some n f = absurd (let clash : ⊥ = cc in clash)

-- ---- at the start

pub begin_way : (edges : List EdgeParts) (y : ℤ) (meeting : Option Point) (sides : Sides) (list : ActiveList)
    (events : List Event) → list.before ≡ [] → IsBelowStop edges y (items list) events
    → IsMeetingPoint y list.after meeting → sides.below ≡ no_windings → sides.above ≡ no_windings → IsOnWay edges y meeting sides list events
begin_way edges y meeting sides list events none below meets e f =
    let all : items list ≡ list.after = ap (λ (ls : List ActiveLine). ls ++ list.after) none in
    let at = begin_at edges y list.after events (subst (λ (ls : List ActiveLine). IsBelowStop edges y ls events) all below) in
    record {
      x = at.0;
      at = subst (λ (ls : List ActiveLine). IsAt edges y at.0 sides.below sides.above ls list.after events) (sym none)
          (subst (λ (w : _). IsAt edges y at.0 w sides.above [] list.after events) (sym e)
          (subst (λ (w : _). IsAt edges y at.0 no_windings w [] list.after events) (sym f) at.1));
      next = meets_by y meeting list.after (below_ascend y list.after at.1.halfway.ascend_after) meets;
    }

-- ---- one point

module _ (edges : List EdgeParts) (y : ℤ) (meeting : Option Point) (sides : Sides) (list : ActiveList)
    (events : List Event) (way : IsOnWay edges y meeting sides list events)
    (ev : Option Point) (is_ev : IsEventPoint y events ev) where
  pub way_ascends : AscendAt y list.after
  way_ascends = below_ascend y list.after way.at.halfway.ascend_after

  pub way_within : AreWithin y list.after
  way_within = after_within edges y way.x sides.below sides.above list.before list.after way.at.known way.at.halfway

  pub is_next : (n : Point) → nearer_of ev meeting ≡ Some n → IsNext y way.x events list.after meeting n
  is_next n e = next_some y way.x events list.after way.at.events.after way.at.events.ascend way.at.halfway.right ev meeting n is_ev way.next e

  goes_by : (next : Option Point) → nearer_of ev meeting ≡ next → GoesOn edges y next sides list events
  goes_by None e =
      let k = next_none y way.x events list.after way.at.events.after way.at.events.ascend way.at.halfway.right ev meeting is_ev way.next e in
      record { within = record { x = way.x; up_to = tt; at = way.at }; none = k.0; apart = k.1 }
  goes_by (Some n) e =
      let k = is_next n e in
      record { within = record { x = way.x; up_to = k.up; at = way.at }; none = (k.at_y, k.none); apart = (k.at_y, k.apart) }

  pub goes_first : (next : Option Point) → next ≡ nearer_of ev meeting → GoesOn edges y next sides list events
  goes_first next e = goes_by next (sym e)

-- ---- what was passed

module _ (y x : ℤ) (p : Point) (at_x : p.x ≡ x) (after0 after1 after2 after3 : List ActiveLine)
    (one : IsPassedUpTo y (Some p) after0 after1) (two : IsPassedUpTo y (Some p) after1 after2)
    (three : PassedLines y x after2 after3) where
  before_all : after0 ≡ (one.passed ++ two.passed) ++ (three.old ++ after3)
  before_all =
      one.split ∙ (ap (λ (ls : List ActiveLine). one.passed ++ ls) (two.split ∙ ap (λ (ls : List ActiveLine). two.passed ++ ls) three.passes.split)
      ∙ sym (append_assoc one.passed two.passed (three.old ++ after3)))

  before_left : All (λ l. x_on l.line y <ℤ x) (one.passed ++ two.passed)
  before_left = subst (λ (z : ℤ). All (λ l. x_on l.line y <ℤ z) (one.passed ++ two.passed)) at_x
      (All-append (λ l. x_on l.line y <ℤ p.x) one.passed two.passed one.before two.before)

  pub passed_through : IsPassedThrough y x after0 after3
  passed_through = record {
    passed = (one.passed ++ two.passed) ++ three.old;
    split = before_all ∙ sym (append_assoc (one.passed ++ two.passed) three.old after3);
    up_to = All-append (λ l. x_on l.line y ≤ℤ x) (one.passed ++ two.passed) three.old
        (All-weaker (λ l. x_on l.line y <ℤ x) (λ l. x_on l.line y ≤ℤ x) (λ l lt. omega (arith, ints, lt)) (one.passed ++ two.passed) before_left)
        (All-weaker (λ l. x_on l.line y ≡ x) (λ l. x_on l.line y ≤ℤ x) (λ l e. omega (arith, ints, e)) three.old three.passes.at);
  }

  size : length after0 ≡ length (one.passed ++ two.passed) + (length three.old + length after3)
  size = ap length before_all
      ∙ (length-append (one.passed ++ two.passed) (three.old ++ after3) ∙ ap
      (λ (n : ℕ). length (one.passed ++ two.passed) + n) (length-append three.old after3))

  pub no_more_lines : length after3 ≤ length after0
  no_more_lines = let s = size in omega (arith, s)

  some_in : {A : Type 0} (xs : List A) (a : A) → Contains xs a → 0 < length xs
  some_in [] a h = absurd (let lt = h.1 in omega (arith, lt))
  some_in (b ∷ xs) a h = omega arith

  pub fewer_lines : HasLineAt y x after0 → PassAtOrRight y (x +ℤ pos 1) after3 → length after3 < length after0
  fewer_lines h right =
      elim (Contains-append_cases (one.passed ++ two.passed) (three.old ++ after3) h.0 (subst (λ (ls : List ActiveLine). Contains ls h.0) before_all h.1)) [
        | inl m ↦ (let lt = All-contains (λ l. x_on l.line y <ℤ x) (one.passed ++ two.passed) h.0 before_left m in
            let e = h.2 in absurd (omega (arith, ints, lt, e)))
        | inr m ↦ elim (Contains-append_cases three.old after3 h.0 m) [
          | inl k ↦ (let some = some_in three.old h.0 k in let s = size in omega (arith, s, some))
          | inr k ↦ (let le = All-contains (λ l. (x +ℤ pos 1) ≤ℤ x_on l.line y) after3 h.0 right k in let e = h.2 in absurd (omega (arith, ints, le, e)))
        ]
      ]

events_size : (y x : ℤ) (events left : List Event) (h : PassedEvents y x events left) → length events ≡ length h.here + length left
events_size y x events left h = ap length h.split ∙ length-append h.here left

pub no_more_events : (y x : ℤ) (events left : List Event) → PassedEvents y x events left → length left ≤ length events
no_more_events y x events left h = let s = events_size y x events left h in omega (arith, s)

some_passed : (y x : ℤ) (events left here : List Event) (f : IsFirstAt y x events) → events ≡ here ++ left
    → ((e : Event) → first_event left ≡ Some e → (e.y ≡ y) × (e.x ≡ x) → ⊥) → 0 < length here
some_passed y x events left [] f split other = absurd (other f.e (ap first_event (sym split) ∙ f.first) (f.at_y, f.at_x))
some_passed y x events left (e ∷ here) f split other = omega arith

pub fewer_events : (y x : ℤ) (events left : List Event) → PassedEvents y x events left → IsFirstAt y x events → length left < length events
fewer_events y x events left h f =
    let some = some_passed y x events left h.here f h.split (beside left h.elsewhere) in
    let s = events_size y x events left h in omega (arith, s, some)
  where
    beside : (es : List Event) → BeginsElsewhere y x es → (e : Event) → first_event es ≡ Some e → (e.y ≡ y) × (e.x ≡ x) → ⊥
    beside [] k e g at = let clash : ⊥ = cc in clash
    beside (d ∷ es) k e g at = (let same : d ≡ e = cc in k (subst (λ (c : Event). (c.y ≡ y) × (c.x ≡ x)) (sym same) at))

-- ---- within reach

event_reach : (edges : List EdgeParts) → All IsEdge edges → All (λ (e : Event). IsWithinReach e.x) (events_of edges)
event_reach [] known = All-nil (λ (e : Event). IsWithinReach e.x)
event_reach (e ∷ edges) known =
    let first = All-head IsEdge e edges known in
    All-cons (λ (f : Event). IsWithinReach f.x) (begin_of e) (end_of e ∷ events_of edges) first.lower_end
    (All-cons (λ (f : Event). IsWithinReach f.x) (end_of e) (events_of edges) first.upper_end (event_reach edges (All-tail IsEdge e edges known)))

rest_events : (P : Event → Type 0) (xs ys : List Event) → All P (xs ++ ys) → All P ys
rest_events P [] ys h = h
rest_events P (x ∷ xs) ys h = rest_events P xs ys (All-tail P x (xs ++ ys) h)

pub begin_within : (edges : List EdgeParts) (y : ℤ) (lines : List ActiveLine) (left : List Event) → IsBelowStop edges y lines left → AreWithin y lines
begin_within edges y lines left h =
    let at = begin_at edges y lines left h in after_within edges y at.0 no_windings no_windings [] lines at.1.known at.1.halfway

-- ---- from one point to the next

module _ (edges : List EdgeParts) (y : ℤ) (meeting : Option Point) (sides : Sides) (list : ActiveList)
    (events : List Event) (way : IsOnWay edges y meeting sides list events)
    (ev : Option Point) (is_ev : IsEventPoint y events ev) (next : Option Point)
    (next_is : next ≡ nearer_of ev meeting) (n : Point) (some : next ≡ Some n) where
  e : nearer_of ev meeting ≡ Some n
  e = sym next_is ∙ some

  here : IsNext y way.x events list.after meeting n
  here = is_next edges y meeting sides list events way ev is_ev n e

  pub at_level : n.y ≡ y
  at_level = here.at_y

  reach_by : IsFirstAt y n.x events ⊎ HasLineAt y n.x list.after → IsWithinReach n.x
  reach_by (inl f) =
      let rest = first_same events f.e f.first in
      let all = rest_events (λ (d : Event). IsWithinReach d.x) way.at.events.passed events
      (All-permutation (λ (d : Event). IsWithinReach d.x) (events_of edges)
      (way.at.events.passed ++ events) way.at.events.whole (event_reach edges way.at.known)) in
      subst IsWithinReach f.at_x (All-head (λ (d : Event). IsWithinReach d.x) f.e rest.0 (subst (All (λ (d : Event). IsWithinReach d.x)) rest.1 all))
  reach_by (inr h) =
      subst IsWithinReach h.2 (All-contains (λ l. IsWithinReach (x_on l.line y)) list.after h.0 (way_within edges y meeting sides list events way ev is_ev) h.1)

  pub x_reach : IsWithinReach n.x
  x_reach = reach_by here.why

  module _ (right : Sides) (list1 : ActiveList) (on_next : PassesLinesOn y next sides list list1 right)
      (passed_next : IsPassedUpTo y next list.after list1.after)
      (ended_next : AscendAt y list.after → HasEnded y next right list1.after) where
    on : PassesLinesOn y (Some n) sides list list1 right
    on = subst (λ (end : Option Point). PassesLinesOn y end sides list list1 right) some on_next

    passed1 : IsPassedUpTo y (Some n) list.after list1.after
    passed1 = subst (λ (end : Option Point). IsPassedUpTo y end list.after list1.after) some passed_next

    ended : AscendAt y list.after → HasEnded y (Some n) right list1.after
    ended h = subst (λ (end : Option Point). HasEnded y end right list1.after) some (ended_next h)

    goes1 : GoesOn edges y (Some n) right list1 events
    goes1 = on edges events (goes_by edges y meeting sides list events way ev is_ev (Some n) e)

    pub ascends1 : AscendAt n.y (items list1)
    ascends1 =
        subst (λ (z : ℤ). AscendAt z (items list1)) (sym here.at_y)
        (halfway_ascends edges y goes1.within.x right.below right.above list1.before list1.after goes1.within.at.halfway)

    module _ (left : Sides) (list2 : ActiveList) (come : ComesTo n right list1 list2 left) where
      came : IsAt edges n.y n.x left.below left.above list2.before list2.after events × IsPassedUpTo n.y (Some n) list1.after list2.after
      came =
          come edges events (subst (λ (z : ℤ). GoesOn edges z (Some n) right list1 events) (sym here.at_y) goes1)
          (subst (λ (z : ℤ). HasEnded z (Some n) right list1.after) (sym here.at_y) (ended (way_ascends edges y meeting sides list events way ev is_ev)))

      pub came_at : IsAt edges n.y n.x left.below left.above list2.before list2.after events
      came_at = came.0

      module _ (sides3 : Sides) (list3 : ActiveList) (events3 : List Event)
          (over : IsAt edges n.y (n.x +ℤ pos 1) sides3.below sides3.above list3.before list3.after events3)
          (lines3 : PassedLines n.y n.x list2.after list3.after) (passed3 : PassedEvents n.y n.x events events3) where
        pub within3 : AreWithin n.y list3.after
        within3 = after_within edges n.y (n.x +ℤ pos 1) sides3.below sides3.above list3.before list3.after over.known over.halfway

        one : IsPassedUpTo n.y (Some n) list.after list1.after
        one = subst (λ (z : ℤ). IsPassedUpTo z (Some n) list.after list1.after) (sym here.at_y) passed1

        pub way_on : (meeting3 : Option Point) → MeetsAfter n meeting list3.after meeting3 → IsOnWay edges y meeting3 sides3 list3 events3
        way_on meeting3 meets =
            subst (λ (z : ℤ). IsOnWay edges z meeting3 sides3 list3 events3) here.at_y
            (record {
              x = n.x +ℤ pos 1;
              at = over;
              next = meets list.after (subst (λ (z : ℤ). IsNextMeeting z meeting list.after) (sym here.at_y) way.next) here.from
                  (passed_through n.y n.x n refl list.after list1.after list2.after list3.after one came.1 lines3)
                  (below_ascend n.y list3.after over.halfway.ascend_after);
            })

        less_by : IsFirstAt y n.x events ⊎ HasLineAt y n.x list.after → length list3.after + length events3 < length list.after + length events
        less_by (inl f) =
            let a = no_more_lines n.y n.x n refl list.after list1.after list2.after list3.after one came.1 lines3 in
            let b = fewer_events n.y n.x events events3 passed3 (subst (λ (z : ℤ). IsFirstAt z n.x events) (sym here.at_y) f) in
            omega (arith, a, b)
        less_by (inr h) =
            let a = fewer_lines n.y n.x n refl list.after list1.after list2.after list3.after one came.1 lines3
            (subst (λ (z : ℤ). HasLineAt z n.x list.after) (sym here.at_y) h) over.halfway.right in
            let b = no_more_events n.y n.x events events3 passed3 in
            omega (arith, a, b)

        pub less : length list3.after + length events3 < length list.after + length events
        less = less_by here.why

-- ---- at the end

pub way_done : (edges : List EdgeParts) (y : ℤ) (meeting : Option Point) (sides : Sides) (list : ActiveList)
    (events : List Event) → IsOnWay edges y meeting sides list events → (ev : Option Point)
    → IsEventPoint y events ev → (next : Option Point) → next ≡ nearer_of ev meeting → next ≡ None
    → (right : Sides) (list1 : ActiveList) → PassesLinesOn y next sides list list1 right
    → (AscendAt y list.after → HasEnded y next right list1.after) → IsAboveStop edges y (items list1) events
way_done edges y meeting sides list events way ev is_ev next next_is none right list1 on ended =
    stop_done edges y right list1 events
    (subst (λ (end : Option Point). PassesLinesOn y end sides list list1 right) none on edges events
    (goes_first edges y meeting sides list events way ev is_ev None (sym none ∙ next_is)))
    (subst (λ (end : Option Point). HasEnded y end right list1.after) none (ended (way_ascends edges y meeting sides list events way ev is_ev)))
