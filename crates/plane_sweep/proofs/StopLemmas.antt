-- From point to point of a stop, over the lines of the row list.
use Rattle.std.proofs.Common.{ℤ, pos, ◌≡◌, ◌≢◌, ◌+ℤ◌, ◌-ℤ◌, ◌≤ℤ◌, ◌<ℤ◌, ◌⊎◌, inl, inr, List, [], ◌∷◌, ◌++◌, Some, drop, All, arith, refl, ap, sym, subst, ◌∙◌}
use Rattle.std.proofs.lemmas.Int.{ints, by_lt_z}
use Rattle.std.proofs.lemmas.List.Elements.{All-nil, All-cons, All-head, All-tail, All-append, All-weaker, All-contains}
use Rattle.half_grid.specs.Edges.{EdgeParts, IsEdge}
use Rattle.half_grid.specs.Lines.{x_on}
use Rattle.half_grid.specs.Reach.{IsWithinReach}
use Rattle.half_grid.specs.Rows.{place}
use Rattle.half_grid.specs.declared.plane.Line.{Line}
use Rattle.half_grid.specs.declared.plane.Line.TheVariants.{Upright, Rising, Falling}
use Rattle.half_grid.specs.declared.border.Operand.{Operand}
use Rattle.half_grid.specs.declared.border.Operand.TheVariants.{A, B}
use Rattle.half_grid.proofs.ForCallers.{int_eq_same, int_eq_other}
use Rattle.scan_line.proofs.ForCallers.{x_within}
use Rattle.active_lines.specs.declared.item.ActiveLine.{ActiveLine}
use Rattle.active_lines.specs.declared.item.Windings.{Windings}
use Rattle.active_lines.specs.Leaning.{MeetAbove, IsNearLine}
use Rattle.active_lines.specs.Neighbours.{SomeMeeting, IsFirstMeeting}
use Rattle.active_lines.specs.Points.{AscendAt}
use Rattle.active_lines.specs.ActiveLists.{first_of}
use Rattle.row_lists.specs.declared.event.Event.{Event}
use Rattle.row_lists.specs.Weights.{weight}
use Rattle.row_lists.specs.RowLists.{AscendIn, ChangeAtEach, NoMeetings, no_windings, winding_of, change_at}
use Rattle.row_lists.specs.RowRuns.{last_windings}
use Rattle.row_lists.specs.Halfway.{IsHalfway, KeepWeights, PassLeft, PassAt, PassAtOrRight, AreThrough}
use Rattle.row_lists.specs.Events.{amount}
use Rattle.row_lists.proofs.ForCallers.{change_left, above_order, below_order, passes_point, same_windings}
use Rattle.plane_sweep.specs.declared.bundle.Bundle.{Bundle}
use Rattle.plane_sweep.specs.Bundles.{added, less, IsBundleOf, HasChangesOf, PassesEvents, AreLinesOf}
use Rattle.plane_sweep.specs.Stops.{EventsAt, IsAt, IsAlone, IsLeft, AreWithin, AreNear, BeginsBeside, PassesLines, MeetFrom}
use Rattle.plane_sweep.proofs.BundleLemmas.{first_all, rest_all, ascend_first, one_or_other}
use Rattle.plane_sweep.proofs.EventsPassed.{left_on_lines, over_events, weight_here, keep_weights, events_further}
use Rattle.plane_sweep.proofs.FillLemmas.{last_is, lines_through}
use Rattle.plane_sweep.proofs.SlabRuns.{top_order, bottom_order, from_by, below_by}
use Rattle.plane_sweep.proofs.Within.{StandsThere, line_edges, on_line}

-- ---- no line is left of one before it

pub ascend_rest : (j : ℤ) (xs ys : List ActiveLine) → AscendIn j (xs ++ ys) → AscendIn j ys
ascend_rest j [] ys h = h
ascend_rest j (x ∷ xs) ys h = ascend_rest j xs ys h.1

pub rest_right : (y x : ℤ) (lines : List ActiveLine) → PassAtOrRight y x lines → AscendIn (y -ℤ pos 1) lines
    → BeginsBeside y x lines → PassAtOrRight y (x +ℤ pos 1) lines
rest_right y x [] h ascend other = All-nil (λ l. (x +ℤ pos 1) ≤ℤ x_on l.line y)
rest_right y x (l ∷ lines) h ascend other =
    let from = All-head (λ m. x ≤ℤ x_on m.line y) l lines h in
    let first : (x +ℤ pos 1) ≤ℤ x_on l.line y =
    by_lt_z x (x_on l.line y) (λ lt. omega (arith, ints, lt)) (λ ge. absurd (other (omega (arith, ints, from, ge)))) in
    All-cons (λ m. (x +ℤ pos 1) ≤ℤ x_on m.line y) l lines first
    (All-weaker (λ m. place l.line (y -ℤ pos 1) <ℤ place m.line (y -ℤ pos 1)) (λ m. (x +ℤ pos 1) ≤ℤ x_on m.line y)
    (λ m lt. (let le = top_order l.line m.line y lt in omega (arith, ints, first, le))) lines ascend.0)

above_ascend : (y : ℤ) (lines : List ActiveLine) → AscendIn y lines → AscendAt y lines
above_ascend y [] h = tt
above_ascend y (l ∷ lines) h = (
  All-weaker (λ m. place l.line y <ℤ place m.line y) (λ m. x_on l.line y ≤ℤ x_on m.line y) (λ m lt. bottom_order l.line m.line y lt) lines h.0,
  above_ascend y lines h.1,
)

pub below_ascend : (y : ℤ) (lines : List ActiveLine) → AscendIn (y -ℤ pos 1) lines → AscendAt y lines
below_ascend y [] h = tt
below_ascend y (l ∷ lines) h = (
  All-weaker (λ m. place l.line (y -ℤ pos 1) <ℤ place m.line (y -ℤ pos 1)) (λ m. x_on l.line y ≤ℤ x_on m.line y)
      (λ m lt. top_order l.line m.line y lt) lines h.0,
  below_ascend y lines h.1,
)

ascend_over : (y x : ℤ) (xs ys : List ActiveLine) → AscendAt y xs → AscendAt y ys → PassLeft y x xs → PassAtOrRight y x ys → AscendAt y (xs ++ ys)
ascend_over y x [] ys h k left right = k
ascend_over y x (l ∷ xs) ys h k left right =
    let here = All-head (λ m. x_on m.line y <ℤ x) l xs left in (
      All-append (λ m. x_on l.line y ≤ℤ x_on m.line y) xs ys h.0
          (All-weaker (λ m. x ≤ℤ x_on m.line y) (λ m. x_on l.line y ≤ℤ x_on m.line y) (λ m q. omega (arith, ints, here, q)) ys right),
      ascend_over y x xs ys h.1 k (All-tail (λ m. x_on m.line y <ℤ x) l xs left) right,
    )

pub halfway_ascends : (edges : List EdgeParts) (y x : ℤ) (below above : Windings) (before after : List ActiveLine)
    → IsHalfway edges y x below above before after → AscendAt y (before ++ after)
halfway_ascends edges y x below above before after h =
    ascend_over y x before after (above_ascend y before h.ascend_before) (below_ascend y after h.ascend_after) h.left h.right

-- ---- lines are within reach

pub near_line : (line : Line) (y x : ℤ) → x_on line y ≡ x → IsWithinReach x → IsWithinReach y → IsNearLine line
near_line (Upright c) y x at h k = let low = h.low in let high = h.high in record { low = omega (arith, ints, at, low); high = omega (arith, ints, at, high) }
near_line (Rising c) y x at h k =
    let a = h.low in let b = h.high in let d = k.low in let e = k.high in
    record { low = omega (arith, ints, at, a, e); high = omega (arith, ints, at, b, d) }
near_line (Falling c) y x at h k =
    let a = h.low in let b = h.high in let d = k.low in let e = k.high in
    record { low = omega (arith, ints, at, a, d); high = omega (arith, ints, at, b, e) }

pub after_within : (edges : List EdgeParts) (y x : ℤ) (below above : Windings) (before after : List ActiveLine) → All IsEdge edges
    → IsHalfway edges y x below above before after → AreWithin y after
after_within edges y x below above before after known h =
    All-weaker (λ l. StandsThere edges (y -ℤ pos 1) (place l.line (y -ℤ pos 1))) (λ l. IsWithinReach (x_on l.line y)) (λ l k. within l k) after
    (line_edges edges (y -ℤ pos 1) after below h.ascend_after h.change_after
    (All-weaker (λ l. x ≤ℤ x_on l.line y)
    (λ l. (o : Operand) → change_at o (y -ℤ pos 1) (place l.line (y -ℤ pos 1)) below after ≡ weight o edges (y -ℤ pos 1) (place l.line (y -ℤ pos 1)))
    (λ l le o. h.weights_after o l.line le) after h.right))
  where
    within : (l : ActiveLine) → StandsThere edges (y -ℤ pos 1) (place l.line (y -ℤ pos 1)) → IsWithinReach (x_on l.line y)
    within l k =
        let is : IsEdge k.edge = All-contains IsEdge edges k.edge known k.has in
        let from = from_by k.edge (y -ℤ pos 1) k.spanning in
        let below_end = below_by k.edge (y -ℤ pos 1) k.spanning in
        subst (λ (m : Line). IsWithinReach (x_on m y)) (on_line edges (y -ℤ pos 1) l k)
        (x_within k.edge y is (omega (arith, ints, from)) (omega (arith, ints, below_end)))

-- ---- over a point

right_not_below : (y x : ℤ) (line : Line) (lines : List ActiveLine) → PassAtOrRight y x lines → x_on line y <ℤ x
    → All (λ m. place m.line (y -ℤ pos 1) ≢ place line (y -ℤ pos 1)) lines
right_not_below y x line lines h near =
    All-weaker (λ m. x ≤ℤ x_on m.line y) (λ m. place m.line (y -ℤ pos 1) ≢ place line (y -ℤ pos 1))
    (λ m q e. (let lt = below_order line m.line y (omega (arith, ints, q, near)) in absurd (omega (arith, ints, lt, e)))) lines h

left_not_at : (y x : ℤ) (line : Line) (lines : List ActiveLine) → PassLeft y x lines → x ≤ℤ x_on line y → All (λ m. place m.line y ≢ place line y) lines
left_not_at y x line lines h far =
    All-weaker (λ m. x_on m.line y <ℤ x) (λ m. place m.line y ≢ place line y)
    (λ m q e. (let lt = above_order m.line line y (omega (arith, ints, q, far)) in absurd (omega (arith, ints, lt, e)))) lines h

module _ (edges : List EdgeParts) (y x : ℤ) (below above : Windings) (before lines : List ActiveLine) (events : List Event)
    (is : IsAt edges y x below above before lines events) (old rest : List ActiveLine) (passes : PassesLines y x lines old rest) where
  half : IsHalfway edges y x below above before (old ++ rest)
  half = subst (λ (ls : List ActiveLine). IsHalfway edges y x below above before ls) passes.split is.halfway

  pub right : PassAtOrRight y (x +ℤ pos 1) rest
  right =
      rest_right y x rest (rest_all (λ l. x ≤ℤ x_on l.line y) old rest half.right)
      (ascend_rest (y -ℤ pos 1) old rest half.ascend_after) passes.beside

  module _ (b c : Bundle) (left : List Event) (has : HasChangesOf below old b) (over : PassesEvents y x events left b c) where
    here : EventsAt edges y x (over.passed.here ++ left)
    here = subst (λ (es : List Event). EventsAt edges y x es) over.passed.split is.events

    pub bundle_weights : IsBundleOf y x (λ o m. weight o edges y (place m y)) c
    bundle_weights o m at =
        over.passed.more (left_on_lines edges y x events is.events) (λ p line. change_at p (y -ℤ pos 1) (place line (y -ℤ pos 1)) below old)
        (has y x (ascend_first (y -ℤ pos 1) old rest half.ascend_after) passes.at) o m at
        ∙ (ap (λ (n : ℤ). n +ℤ amount o over.passed.here m y)
        (sym (change_left o (y -ℤ pos 1) (place m (y -ℤ pos 1)) below old rest (right_not_below y (x +ℤ pos 1) m rest right (omega (arith, ints, at))))
        ∙ half.weights_after o m (omega (arith, ints, at)))
        ∙ weight_here edges y x over.passed.here left here over.passed.at over.elsewhere is.known o m at)

    pub over_point : (new : List ActiveLine) (last : Windings) → AreLinesOf y x c above new last
        → IsAt edges y (x +ℤ pos 1) (last_windings below old) last (before ++ new) rest left
    over_point new last are = record {
      known = is.known;
      halfway = subst (λ (w : Windings). IsHalfway edges y (x +ℤ pos 1) (last_windings below old) w (before ++ new) rest)
          (last_is edges y x c above new last are)
          (passes_point edges y x below above before old new rest half passes.at right (lines_through edges y x c above new last are bundle_weights));
      events = over_events edges y x over.passed.here left here over.passed.at over.elsewhere;
    }

-- ---- up to a point further right, with no line on the way

pub moves_halfway : (edges : List EdgeParts) (y from to : ℤ) (below above : Windings) (before after : List ActiveLine)
    → IsHalfway edges y from below above before after → from ≤ℤ to → PassAtOrRight y to after → KeepWeights edges y from to
    → IsHalfway edges y to below above before after
moves_halfway edges y from to below above before after h up right keep = record {
  ascend_before = h.ascend_before;
  ascend_after = h.ascend_after;
  change_before = h.change_before;
  change_after = h.change_after;
  left = All-weaker (λ l. x_on l.line y <ℤ from) (λ l. x_on l.line y <ℤ to) (λ l q. omega (arith, ints, q, up)) before h.left;
  right = right;
  last = h.last;
  weights_before = λ o line near.
      by_lt_z (x_on line y) from (λ lt. h.weights_before o line lt)
      (λ far. change_left o y (place line y) no_windings [] before (left_not_at y from line before h.left far)
      ∙ (sym (change_left o (y -ℤ pos 1) (place line (y -ℤ pos 1)) below [] after (right_not_below y to line after right near))
      ∙ (h.weights_after o line far ∙ keep o line far near)));
  weights_after = λ o line far. h.weights_after o line (omega (arith, ints, far, up));
}

-- ---- neighbours that meet

pub meet_rest : (y x : ℤ) (xs ys : List ActiveLine) → MeetFrom y x (xs ++ ys) → MeetFrom y x ys
meet_rest y x [] ys h = h
meet_rest y x (l ∷ []) [] h = tt
meet_rest y x (l ∷ []) (m ∷ ys) h = h.1
meet_rest y x (l ∷ m ∷ xs) ys h = meet_rest y x (m ∷ xs) ys h.1

pub meet_none : (y x : ℤ) (lines : List ActiveLine) → (SomeMeeting lines y → ⊥) → MeetFrom y x lines
meet_none y x [] h = tt
meet_none y x (l ∷ []) h = tt
meet_none y x (l ∷ m ∷ lines) h = ((λ k. absurd (h (inl k))), meet_none y x (m ∷ lines) (λ k. h (inr k)))

meet_right : (y x : ℤ) (lines : List ActiveLine) → All (λ l. x ≤ℤ x_on l.line y) lines → MeetFrom y x lines
meet_right y x [] h = tt
meet_right y x (l ∷ []) h = tt
meet_right y x (l ∷ m ∷ lines) h = (
  (λ k. All-head (λ n. x ≤ℤ x_on n.line y) l (m ∷ lines) h),
  meet_right y x (m ∷ lines)
      (All-tail (λ n. x ≤ℤ x_on n.line y) l (m ∷ lines) h),
)

meet_from : (y : ℤ) (l m : ActiveLine) (left right : List ActiveLine) → AscendAt y (left ++ (l ∷ m ∷ right)) → (SomeMeeting (left ++ l ∷ []) y → ⊥)
    → MeetFrom y (x_on l.line y) (left ++ (l ∷ m ∷ right))
meet_from y l m [] right ascend none =
    meet_right y (x_on l.line y) (l ∷ m ∷ right) (All-cons (λ n. x_on l.line y ≤ℤ x_on n.line y) l (m ∷ right) (omega (arith, ints)) ascend.0)
meet_from y l m (k ∷ []) right ascend none = ((λ h. absurd (none (inl h))), meet_from y l m [] right ascend.1 (λ h. absurd (none (inr h))))
meet_from y l m (k ∷ n ∷ left) right ascend none = ((λ h. absurd (none (inl h))), meet_from y l m (n ∷ left) right ascend.1 (λ h. none (inr h)))

pub meet_first : (y : ℤ) (lines : List ActiveLine) (l : ActiveLine) → AscendAt y lines → IsFirstMeeting lines y l → MeetFrom y (x_on l.line y) lines
meet_first y lines l ascend h =
    subst (MeetFrom y (x_on l.line y)) (sym h.split) (meet_from y l h.m h.left h.right (subst (AscendAt y) h.split ascend) h.none_before)

meets_nowhere : (y x : ℤ) (mid rest : List ActiveLine) → MeetFrom y x (mid ++ rest) → PassLeft y x mid → SomeMeeting mid y → ⊥
meets_nowhere y x [] rest h left s = s
meets_nowhere y x (l ∷ []) rest h left s = s
meets_nowhere y x (l ∷ m ∷ mid) rest h left (inl k) =
    let from = h.0 k in let near = All-head (λ n. x_on n.line y <ℤ x) l (m ∷ mid) left in absurd (omega (arith, ints, from, near))
meets_nowhere y x (l ∷ m ∷ mid) rest h left (inr k) = meets_nowhere y x (m ∷ mid) rest h.1 (All-tail (λ n. x_on n.line y <ℤ x) l (m ∷ mid) left) k

pub no_meetings : (y x : ℤ) (mid rest : List ActiveLine) → MeetFrom y x (mid ++ rest) → PassLeft y x mid → NoMeetings mid (y -ℤ pos 1) y
no_meetings y x mid rest h left z above up s =
    let same : z ≡ y = omega (arith, ints, above, up) in meets_nowhere y x mid rest h left (subst (SomeMeeting mid) same s)

-- ---- another place in the same list

pub record IsFurther (before after new_before new_after : List ActiveLine) : Type 0 where
  pub mid : List ActiveLine
  pub before_is : new_before ≡ before ++ mid
  pub after_is : after ≡ mid ++ new_after

cons_head : (a b : ActiveLine) (xs ys : List ActiveLine) → a ∷ xs ≡ b ∷ ys → a ≡ b
cons_head a b xs ys h = cc

cons_tail : (a b : ActiveLine) (xs ys : List ActiveLine) → a ∷ xs ≡ b ∷ ys → xs ≡ ys
cons_tail a b xs ys h = cc

pub further : (y x : ℤ) (before after new_before new_after : List ActiveLine)
    → before ++ after ≡ new_before ++ new_after → PassLeft y x before → PassAtOrRight y x new_after
    → IsFurther before after new_before new_after
further y x [] after us vs e left right = record { mid = us; before_is = refl; after_is = e }
further y x (a ∷ xs) after [] vs e left right =
    let here = All-head (λ l. x_on l.line y <ℤ x) a xs left in
    let there = All-head (λ l. x ≤ℤ x_on l.line y) a (xs ++ after) (subst (PassAtOrRight y x) (sym e) right) in
    absurd (omega (arith, ints, here, there))
further y x (a ∷ xs) after (b ∷ us) vs e left right =
    let rest = further y x xs after us vs (cons_tail a b (xs ++ after) (us ++ vs) e) (All-tail (λ l. x_on l.line y <ℤ x) a xs left) right in
    record {
      mid = rest.mid;
      before_is = ap (λ (ls : List ActiveLine). b ∷ ls) rest.before_is ∙ ap (λ (c : ActiveLine). c ∷ (xs ++ rest.mid))
          (sym (cons_head a b (xs ++ after) (us ++ vs) e));
      after_is = rest.after_is;
    }

-- ---- what the functions meet

pub same_at : (edges : List EdgeParts) (y x : ℤ) (below above : Windings) (before after new_before new_after : List ActiveLine) (events : List Event)
    → IsAt edges y x below above before after events → new_before ≡ before → new_after ≡ after → IsAt edges y x below above new_before new_after events
same_at edges y x below above before after new_before new_after events h e f =
    subst (λ (ls : List ActiveLine). IsAt edges y x below above ls new_after events) (sym e)
    (subst (λ (ls : List ActiveLine). IsAt edges y x below above before ls events) (sym f) h)

pub near_lines : (y x : ℤ) (lines : List ActiveLine) → PassAt y x lines → IsWithinReach x → IsWithinReach y → AreNear lines
near_lines y x lines at h k = All-weaker (λ l. x_on l.line y ≡ x) (λ l. IsNearLine l.line) (λ l e. near_line l.line y x e h k) lines at

pub first_rest : (lines : List ActiveLine) (l : ActiveLine) → first_of lines ≡ Some l → lines ≡ l ∷ drop 1 lines
first_rest [] l h = absurd (let clash : ⊥ = cc in clash)
first_rest (m ∷ lines) l h = (let same : m ≡ l = cc in ap (λ (k : ActiveLine). k ∷ lines) same)

pub first_within : (y : ℤ) (all taken left : List ActiveLine) (l : ActiveLine) → AreWithin y all → all ≡ taken ++ left
    → first_of left ≡ Some l → IsWithinReach (x_on l.line y)
first_within y all taken left l h e first =
    let rest = first_rest left l first in
    All-head (λ m. IsWithinReach (x_on m.line y)) l (drop 1 left)
    (rest_all (λ m. IsWithinReach (x_on m.line y)) taken (l ∷ drop 1 left)
    (subst (AreWithin y) (e ∙ ap (λ (ls : List ActiveLine). taken ++ ls) rest) h))

-- ---- a line that alone passes through its point

no_new : (above below w l : Windings) → w ≡ added above (less l below) → w ≡ above → l ≡ below
no_new above below w l h e =
    let a = ap (λ (v : Windings). v.a) (sym h ∙ e) in
    let b = ap (λ (v : Windings). v.b) (sym h ∙ e) in
    same_windings l below (omega (arith, ints, a)) (omega (arith, ints, b))

same_change : (o : Operand) (above below w l : Windings) → w ≡ added above (less l below)
    → winding_of o w -ℤ winding_of o above ≡ winding_of o l -ℤ winding_of o below
same_change A above below w l h = (let e = ap (λ (v : Windings). v.a) h in omega (arith, ints, e))
same_change B above below w l h = (let e = ap (λ (v : Windings). v.b) h in omega (arith, ints, e))

with_windings : ActiveLine → Windings → ActiveLine
with_windings l w = record { line = l.line; windings = w; opened = l.opened }

module _ (edges : List EdgeParts) (y x : ℤ) (below above : Windings) (before : List ActiveLine) (l : ActiveLine) (rest : List ActiveLine) (events : List Event)
    (is : IsAt edges y x below above before (l ∷ rest) events) (alone : IsAlone y l.line rest events) (w : Windings)
    (sum : w ≡ added above (less l.windings below)) where
  from : x ≤ℤ x_on l.line y
  from = All-head (λ m. x ≤ℤ x_on m.line y) l rest is.halfway.right

  keep : KeepWeights edges y x (x_on l.line y +ℤ pos 1)
  keep = keep_weights edges y x (x_on l.line y +ℤ pos 1) events is.known is.events alone.beyond

  all_right : PassAtOrRight y (x_on l.line y) (l ∷ rest)
  all_right = All-cons (λ m. x_on l.line y ≤ℤ x_on m.line y) l rest (omega (arith, ints)) (below_ascend y (l ∷ rest) is.halfway.ascend_after).0

  moved : IsHalfway edges y (x_on l.line y) below above before (l ∷ rest)
  moved = moves_halfway edges y x (x_on l.line y) below above before (l ∷ rest) is.halfway from all_right
      (λ o line far near. keep o line far (omega (arith, ints, near)))

  over_rest : PassAtOrRight y (x_on l.line y +ℤ pos 1) rest
  over_rest = rest_right y (x_on l.line y) rest (All-tail (λ m. x_on l.line y ≤ℤ x_on m.line y) l rest all_right) is.halfway.ascend_after.1 alone.beside

  kept : (o : Operand) (m : Line) → x_on m y ≡ x_on l.line y
      → change_at o (y -ℤ pos 1) (place m (y -ℤ pos 1)) below (l ∷ []) ≡ weight o edges y (place m y)
  kept o m at =
      sym (change_left o (y -ℤ pos 1) (place m (y -ℤ pos 1)) below (l ∷ []) rest
      (right_not_below y (x_on l.line y +ℤ pos 1) m rest over_rest (omega (arith, ints, at))))
      ∙ (is.halfway.weights_after o m (omega (arith, ints, from, at)) ∙ keep o m (omega (arith, ints, from, at)) (omega (arith, ints, at)))

  changed : (o : Operand) (m : Line) → x_on m y ≡ x_on l.line y
      → change_at o y (place m y) above (with_windings l w ∷ []) ≡ change_at o (y -ℤ pos 1) (place m (y -ℤ pos 1)) below (l ∷ [])
  unfolding with_windings
  changed o m at =
      elim (one_or_other l.line m y (sym at)) [
        | inl e ↦ (let a = int_eq_same (place l.line y) (place m y) (ap (λ (k : Line). place k y) e) in
            let b = int_eq_same (place l.line (y -ℤ pos 1)) (place m (y -ℤ pos 1)) (ap (λ (k : Line). place k (y -ℤ pos 1)) e) in
            rw (a, b) (same_change o above below w l.windings sum))
        | inr other ↦ (let a = int_eq_other (place l.line y) (place m y) other.above in
            let b = int_eq_other (place l.line (y -ℤ pos 1)) (place m (y -ℤ pos 1)) other.below in rw (a, b) refl)
      ]

  through : AreThrough edges y (x_on l.line y) above (with_windings l w ∷ [])
  unfolding with_windings
  through = record {
    ascend = (All-nil (λ m. place l.line y <ℤ place m.line y), tt);
    change = ((λ e. is.halfway.change_after.0 (no_new above below w l.windings sum e)), tt);
    at = All-cons (λ m. x_on m.line y ≡ x_on l.line y) (with_windings l w) [] refl (All-nil (λ m. x_on m.line y ≡ x_on l.line y));
    weights = λ o m at. changed o m at ∙ kept o m at;
  }

  pub pass_alone : IsAt edges y (x_on l.line y +ℤ pos 1) l.windings w (before ++ (record { line = l.line; windings = w; opened = l.opened }) ∷ []) rest events
  unfolding with_windings
  pass_alone = record {
    known = is.known;
    halfway = passes_point edges y (x_on l.line y) below above before (l ∷ []) (with_windings l w ∷ []) rest moved
        (All-cons (λ m. x_on m.line y ≡ x_on l.line y) l [] refl (All-nil (λ m. x_on m.line y ≡ x_on l.line y))) over_rest through;
    events = events_further edges y x (x_on l.line y +ℤ pos 1) events (omega (arith, ints, from)) is.events alone.beyond;
  }
