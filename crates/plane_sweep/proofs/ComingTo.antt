-- Points of a stop that are come to, and the stop as a whole, over the lines of the row list.
use Rattle.std.proofs.Common.{ℕ, ℤ, pos, ◌≡◌, ◌≢◌, ◌+◌, ◌<◌, ◌≤◌, ◌+ℤ◌, ◌-ℤ◌, ◌≤ℤ◌, ◌<ℤ◌, ◌⊎◌, inl, inr, if◌then◌else◌}
use Rattle.std.proofs.Common.{int_le, Bool, true, false, List, [], ◌∷◌, ◌++◌, length, slice_index_or, Option, Some}
use Rattle.std.proofs.Common.{None, All, append-nil, append_assoc, arith, refl, ap, sym, subst, ◌∙◌}
use Rattle.std.specs.Int.{int_min, int_max}
use Rattle.std.specs.List.{Contains}
use Rattle.std.proofs.lemmas.Int.{ints, clamps, by_lt_z}
use Rattle.std.proofs.lemmas.List.{length-append}
use Rattle.std.proofs.lemmas.List.Elements.{All-nil, All-cons, All-head, All-tail, All-append, All-weaker, All-contains}
use Rattle.std.proofs.lemmas.List.Elements.{Contains-append_cases, Contains-append_right, Contains-append_left}
use Rattle.std.proofs.lemmas.List.Elements.{Contains-push}
use Rattle.std.proofs.lemmas.List.Sorted.{All-permutation}
use Rattle.half_grid.specs.Edges.{EdgeParts, IsEdge}
use Rattle.half_grid.specs.Lines.{x_on}
use Rattle.half_grid.specs.Reach.{IsWithinReach}
use Rattle.half_grid.specs.declared.plane.Line.{Line}
use Rattle.half_grid.specs.declared.plane.Point.{Point}
use Rattle.half_grid.specs.declared.border.Operand.{Operand}
use Rattle.active_lines.specs.declared.item.ActiveLine.{ActiveLine}
use Rattle.active_lines.specs.declared.item.Windings.{Windings}
use Rattle.active_lines.specs.ActiveLists.{ActiveList, active_list, items}
use Rattle.active_lines.specs.Neighbours.{SomeMeeting, IsFirstMeeting}
use Rattle.active_lines.specs.Points.{AscendAt, IsBefore, IsNotBefore}
use Rattle.row_lists.specs.declared.event.Event.{Event}
use Rattle.row_lists.specs.RowLists.{IsRowList, NoMeetings, no_windings}
use Rattle.row_lists.specs.RowRuns.{last_windings}
use Rattle.row_lists.specs.Halfway.{IsHalfway, KeepWeights, PassLeft, PassAtOrRight}
use Rattle.row_lists.specs.Events.{begin_of, end_of, events_of, ComesBefore, EventsAscend}
use Rattle.row_lists.proofs.ForCallers.{begins_halfway, goes_on_halfway, ends_halfway}
use Rattle.plane_sweep.specs.declared.point.Sides.{Sides}
use Rattle.plane_sweep.specs.Bundles.{first_event}
use Rattle.plane_sweep.specs.Stops.{EventsLeft, IsPassed, IsLeft, EventsAt, IsAt, AreWithin, MeetFrom, EventsFrom}
use Rattle.plane_sweep.specs.Stops.{MeetingsFrom, IsUpTo, PassFrom, PassBefore, IsPassedUpTo, IsWithin, HasEnded}
use Rattle.plane_sweep.specs.Stops.{GoesOn, ComesTo, MeetsAfter, IsPassedThrough, HasLineAt, IsNextMeeting}
use Rattle.plane_sweep.specs.Stops.{IsMeetingPoint, IsEventPoint, nearer_of, IsFrom, IsBelowStop, IsAboveStop, IsOnWay}
use Rattle.plane_sweep.specs.Stops.{PassesLines, PassedEvents, PassedLines}
use Rattle.plane_sweep.proofs.BundleLemmas.{first_all, rest_all}
use Rattle.plane_sweep.proofs.EventsPassed.{keep_weights, events_further}
use Rattle.plane_sweep.proofs.StopLemmas.{moves_halfway, below_ascend, halfway_ascends, no_meetings, meet_rest, meet_none, meet_first, IsFurther, further}
use Rattle.plane_sweep.proofs.WayLemmas.{passed_none}

-- ---- to a point

module _ (edges : List EdgeParts) (p : Point) (left : Sides) (old : ActiveList) (events : List Event) (goes : GoesOn edges p.y (Some p) left old events) where
  at : IsAt edges p.y goes.within.x left.below left.above old.before old.after events
  at = goes.within.at

  -- with no line on the way
  pub reach : PassAtOrRight p.y p.x old.after → IsAt edges p.y p.x left.below left.above old.before old.after events
  reach right = record {
    known = goes.within.at.known;
    halfway = moves_halfway edges p.y goes.within.x p.x left.below left.above old.before old.after goes.within.at.halfway goes.within.up_to right
        (keep_weights edges p.y goes.within.x p.x events goes.within.at.known goes.within.at.events goes.none.1);
    events = events_further edges p.y goes.within.x p.x events goes.within.up_to goes.within.at.events goes.none.1;
  }

  -- over lines at which nothing changes
  module _ (new : ActiveList) (same : left.below ≡ left.above) (all : items new ≡ items old)
      (before : All (IsBefore p.x p.y) new.before) (after : All (IsNotBefore p.x p.y) new.after) where
    split : IsFurther old.before old.after new.before new.after
    split =
        further p.y p.x old.before old.after new.before new.after (sym all)
        (All-weaker (λ l. x_on l.line p.y <ℤ goes.within.x) (λ l. x_on l.line p.y <ℤ p.x)
        (λ l lt. (let up = goes.within.up_to in omega (arith, ints, lt, up))) old.before goes.within.at.halfway.left) after

    mid_left : PassLeft p.y p.x split.mid
    mid_left = rest_all (λ l. x_on l.line p.y <ℤ p.x) old.before split.mid (subst (All (IsBefore p.x p.y)) split.before_is before)

    pub went_passed : IsPassedUpTo p.y (Some p) old.after new.after
    went_passed = record { passed = split.mid; split = split.after_is; before = mid_left }

    half : IsHalfway edges p.y goes.within.x left.above left.above old.before (split.mid ++ new.after)
    half =
        subst (λ (ls : List ActiveLine). IsHalfway edges p.y goes.within.x left.above left.above old.before ls) split.after_is
        (subst (λ (w : Windings). IsHalfway edges p.y goes.within.x w left.above old.before old.after) same goes.within.at.halfway)

    gone : IsHalfway edges p.y p.x (last_windings left.above split.mid) (last_windings left.above split.mid) (old.before ++ split.mid) new.after
    gone =
        goes_on_halfway edges p.y goes.within.x p.x left.above old.before split.mid new.after half goes.within.up_to mid_left after
        (keep_weights edges p.y goes.within.x p.x events goes.within.at.known goes.within.at.events goes.none.1)
        (no_meetings p.y p.x split.mid new.after (subst (MeetFrom p.y p.x) split.after_is goes.apart.1) mid_left)

    pub went_at : (right : Sides) → right.below ≡ last_windings no_windings new.before → right.above ≡ last_windings no_windings new.before
        → IsAt edges p.y p.x right.below right.above new.before new.after events
    went_at right e f =
        let last : last_windings left.above split.mid ≡ last_windings no_windings new.before = sym gone.last ∙ ap
        (last_windings no_windings) (sym split.before_is) in
        record {
          known = goes.within.at.known;
          halfway =
              subst (λ (w : Windings). IsHalfway edges p.y p.x w right.above new.before new.after) (last ∙ sym e)
              (subst (λ (w : Windings). IsHalfway edges p.y p.x (last_windings left.above split.mid) w new.before new.after) (last ∙ sym f)
              (subst (λ (ls : List ActiveLine). IsHalfway edges p.y p.x (last_windings left.above split.mid)
              (last_windings left.above split.mid) ls new.after) (sym split.before_is) gone));
          events = events_further edges p.y goes.within.x p.x events goes.within.up_to goes.within.at.events goes.none.1;
        }

pub reaches : (p : Point) (left : Sides) (list : ActiveList) → left.below ≢ left.above → ComesTo p left list list left
reaches p left list differ edges events goes (inl same) = absurd (differ same)
reaches p left list differ edges events goes (inr right) = (reach edges p left list events goes right, passed_none p.y (Some p) list.after)

pub goes : (p : Point) (left right : Sides) (old new : ActiveList) → left.below ≡ left.above → items new ≡ items old
    → All (IsBefore p.x p.y) new.before → All (IsNotBefore p.x p.y) new.after
    → right.below ≡ last_windings no_windings new.before → right.above ≡ last_windings no_windings new.before → ComesTo p left old new right
goes p left right old new same all before after e f edges events on ended =
    (went_at edges p left old events on new same all before after right e f, went_passed edges p left old events on new same all before after)

-- ---- meetings

pub meets_none : (p : Point) (lines : List ActiveLine) (first : List ActiveLine) → IsNextMeeting p.y None first
    → IsPassedThrough p.y p.x first lines → IsNextMeeting p.y None lines
meets_none p lines first h passed = λ x. meet_rest p.y x passed.passed lines (subst (MeetFrom p.y x) passed.split (h x))

line_later : (y x z : ℤ) (first lines : List ActiveLine) → HasLineAt y z first → x <ℤ z → IsPassedThrough y x first lines → HasLineAt y z lines
line_later y x z first lines h further passed =
    elim (Contains-append_cases passed.passed lines h.0 (subst (λ (ls : List ActiveLine). Contains ls h.0) passed.split h.1)) [
      | inl m ↦ (let le = All-contains (λ l. x_on l.line y ≤ℤ x) passed.passed h.0 passed.up_to m in let e = h.2 in
          absurd (omega (arith, ints, le, e, further)))
      | inr m ↦ (h.0, m, h.2)
    ]

pub meets_later : (p q : Point) (lines first : List ActiveLine) → p.x <ℤ q.x → IsNextMeeting p.y (Some q) first
    → IsPassedThrough p.y p.x first lines → IsNextMeeting p.y (Some q) lines
meets_later p q lines first further h passed = (
  h.0,
  meet_rest p.y q.x passed.passed lines (subst (MeetFrom p.y q.x) passed.split h.1),
  line_later p.y p.x q.x first lines h.2 further passed,
)

pub meets_by : (y : ℤ) (next : Option Point) (lines : List ActiveLine) → AscendAt y lines → IsMeetingPoint y lines next → IsNextMeeting y next lines
meets_by y None lines ascend h = λ x. meet_none y x lines h
meets_by y (Some q) lines ascend h =
    let l = h.0 in
    let k = h.1 in (
      h.3,
      subst (λ (x : ℤ). MeetFrom y x lines) (sym h.2) (meet_first y lines l ascend k),
      (
        l,
        subst (λ (ls : List ActiveLine). Contains ls l) (sym k.split)
            (Contains-append_right k.left (l ∷ k.m ∷ k.right) l
            (Contains-append_left (l ∷ []) (k.m ∷ k.right) l (Contains-push [] l))),
        sym h.2,
      ),
    )

-- ---- left of all

events_start : List Event → ℤ
events_start [] = pos 0
events_start (e ∷ events) = int_min e.x (events_start events)

all_start : (y x : ℤ) (events : List Event) → x ≤ℤ events_start events → All (λ e. (y -ℤ pos 1) <ℤ e.y) events → All (IsLeft y x) events
unfolding events_start
all_start y x [] h above = All-nil (IsLeft y x)
all_start y x (e ∷ events) h above =
    let lt = All-head (λ f. (y -ℤ pos 1) <ℤ f.y) e events above in
    All-cons (IsLeft y x) e events
    (by_lt_z y e.y (λ over. inl over) (λ le. inr (omega (arith, ints, lt, le), omega (arith, ints, clamps, h))))
    (all_start y x events (omega (arith, ints, clamps, h)) (All-tail (λ f. (y -ℤ pos 1) <ℤ f.y) e events above))

lower_start : (edges : List EdgeParts) (y x to : ℤ) (lines : List ActiveLine) → IsRowList edges (y -ℤ pos 1) lines
    → IsHalfway edges y x no_windings no_windings [] lines → to ≤ℤ x
    → IsHalfway edges y to no_windings no_windings [] lines
lower_start edges y x to lines list h le = record {
  ascend_before = tt;
  ascend_after = h.ascend_after;
  change_before = tt;
  change_after = h.change_after;
  left = All-nil (λ l. x_on l.line y <ℤ to);
  right = All-weaker (λ l. x ≤ℤ x_on l.line y) (λ l. to ≤ℤ x_on l.line y) (λ l k. omega (arith, ints, le, k)) lines h.right;
  last = refl;
  weights_before = λ o line lt. h.weights_before o line (omega (arith, ints, le, lt));
  weights_after = λ o line far. list.weights o _;
}

pub begin_at : (edges : List EdgeParts) (y : ℤ) (lines : List ActiveLine) (left : List Event)
    → IsBelowStop edges y lines left → (x : ℤ) × IsAt edges y x no_windings no_windings [] lines left
begin_at edges y lines left h =
    let half = begins_halfway edges y lines h.list in
    let to = int_min half.0 (events_start left) in (
      to,
      record {
        known = h.known;
        halfway = lower_start edges y half.0 to lines h.list half.1 (omega (arith, ints, clamps));
        events = record {
          passed = h.events.passed;
          whole = h.events.whole;
          ascend = h.events.ascend;
          before = All-weaker (λ e. e.y ≤ℤ (y -ℤ pos 1)) (IsPassed y to) (λ e le. inl (omega (arith, ints, le))) h.events.passed h.events.below;
          after = all_start y to left (omega (arith, ints, clamps)) h.events.above;
        };
      },
    )

-- ---- right of all

lines_end : ℤ → List ActiveLine → ℤ
lines_end y [] = pos 0
lines_end y (l ∷ lines) = int_max (x_on l.line y +ℤ pos 1) (lines_end y lines)

all_end : (y x : ℤ) (lines : List ActiveLine) → lines_end y lines ≤ℤ x → PassLeft y x lines
unfolding lines_end
all_end y x [] h = All-nil (λ l. x_on l.line y <ℤ x)
all_end y x (l ∷ lines) h =
    All-cons (λ m. x_on m.line y <ℤ x) l lines (omega (arith, ints, clamps, h)) (all_end y x lines (omega (arith, ints, clamps, h)))

same_both : (edges : List EdgeParts) (y x : ℤ) (below above : Windings) (lines : List ActiveLine)
    → IsHalfway edges y x below above lines [] → IsHalfway edges y x above above lines []
same_both edges y x below above lines h = record {
  ascend_before = h.ascend_before;
  ascend_after = tt;
  change_before = h.change_before;
  change_after = tt;
  left = h.left;
  right = h.right;
  last = h.last;
  weights_before = h.weights_before;
  weights_after = h.weights_after;
}

module _ (edges : List EdgeParts) (y : ℤ) (sides : Sides) (list : ActiveList) (events : List Event) (goes : GoesOn edges y None sides list events) where
  start : ℤ
  start = goes.within.x

  far : ℤ
  far = int_max goes.within.x (lines_end y list.after)

  keeps : (to : ℤ) → KeepWeights edges y goes.within.x to
  keeps to = keep_weights edges y goes.within.x to events goes.within.at.known goes.within.at.events (goes.none to)

  list_by : (sides.below ≡ sides.above) ⊎ (list.after ≡ []) → IsRowList edges y (list.before ++ list.after)
  unfolding far
  list_by (inl same) =
      let up : goes.within.x ≤ℤ far = omega (arith, ints, clamps) in
      let gone = goes_on_halfway edges y goes.within.x far sides.above list.before list.after []
      (subst (λ (w : Windings). IsHalfway edges y goes.within.x w sides.above list.before (list.after ++ [])) same
      (subst (λ (ls : List ActiveLine). IsHalfway edges y goes.within.x sides.below sides.above list.before ls)
      (sym (append-nil list.after)) goes.within.at.halfway))
      up (all_end y far list.after (omega (arith, ints, clamps))) (All-nil (λ l. far ≤ℤ x_on l.line y)) (keeps far)
      (no_meetings y far list.after [] (subst (MeetFrom y far) (sym (append-nil list.after)) (goes.apart far))
      (all_end y far list.after (omega (arith, ints, clamps)))) in
      ends_halfway edges y far (last_windings sides.above list.after) (list.before ++ list.after) gone
      (λ to o line from near. keeps to o line (omega (arith, ints, up, from)) near)
  list_by (inr none) =
      subst (λ (ls : List ActiveLine). IsRowList edges y (list.before ++ ls)) (sym none)
      (subst (IsRowList edges y) (sym (append-nil list.before))
      (ends_halfway edges y goes.within.x sides.above list.before
      (same_both edges y goes.within.x sides.below sides.above list.before
      (subst (λ (ls : List ActiveLine). IsHalfway edges y goes.within.x sides.below sides.above list.before ls)
      none goes.within.at.halfway)) keeps))

  event_above : (e : Event) → IsLeft y (e.x +ℤ pos 1) e → y <ℤ e.y
  event_above e (inl lt) = lt
  event_above e (inr h) = let le = h.1 in absurd (omega (arith, ints, le))

  passed_below : (e : Event) → IsPassed y goes.within.x e → e.y ≤ℤ y
  passed_below e (inl lt) = omega (arith, ints, lt)
  passed_below e (inr h) = let same = h.0 in omega (arith, ints, same)

  pub stop_done : HasEnded y None sides list.after → IsAboveStop edges y (items list) events
  stop_done ended = record {
    known = goes.within.at.known;
    list = list_by ended;
    events = record {
      passed = goes.within.at.events.passed;
      whole = goes.within.at.events.whole;
      ascend = goes.within.at.events.ascend;
      below = All-weaker (IsPassed y goes.within.x) (λ e. e.y ≤ℤ y) (λ e h. passed_below e h) goes.within.at.events.passed goes.within.at.events.before;
      above = λ k d lt. event_above (slice_index_or events k d) (goes.none ((slice_index_or events k d).x +ℤ pos 1) k d lt);
    };
  }

-- ---- the meeting after a point

pub meets_default : (p : Point) (meeting : Option Point) (lines : List ActiveLine) → meeting ≡ None → MeetsAfter p meeting lines None
meets_default p meeting lines e first h from passed ascend =
    meets_none p lines first (subst (λ (m : Option Point). IsNextMeeting p.y m first) e h) passed

pub meets_same : (p q : Point) (meeting : Option Point) (lines : List ActiveLine) → meeting ≡ Some q → p.x <ℤ q.x → MeetsAfter p meeting lines (Some q)
meets_same p q meeting lines e further first h from passed ascend =
    meets_later p q lines first further (subst (λ (m : Option Point). IsNextMeeting p.y m first) e h) passed

pub meets_new : (p : Point) (meeting next : Option Point) (lines : List ActiveLine) → IsMeetingPoint p.y lines next → MeetsAfter p meeting lines next
meets_new p meeting next lines is first h from passed ascend = meets_by p.y next lines ascend is
