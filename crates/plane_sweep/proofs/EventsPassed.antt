-- The events of a stop: which lines keep their weights, and what the events at a point add.
use Rattle.std.proofs.Common.{ℤ, pos, ◌≡◌, ◌≢◌, ◌+ℤ◌, ◌-ℤ◌, ◌≤ℤ◌, ◌<ℤ◌, ◌⊎◌, inl, inr, Bool, true, false, ◌&&◌, List}
use Rattle.std.proofs.Common.{[], ◌∷◌, ◌++◌, All, append_assoc, arith, refl, ap, sym, subst, ◌∙◌}
use Rattle.std.specs.Prelude.{IsPermutation}
use Rattle.std.specs.Ordering.{int_eq}
use Rattle.std.proofs.lemmas.Int.{ints, by_lt_z}
use Rattle.std.proofs.lemmas.List.Elements.{All-nil, All-cons, All-head, All-tail, All-append, All-weaker}
use Rattle.std.proofs.lemmas.List.Sorted.{All-permutation}
use Rattle.half_grid.specs.Edges.{EdgeParts, IsEdge}
use Rattle.half_grid.specs.Lines.{x_on}
use Rattle.half_grid.specs.Rows.{place}
use Rattle.half_grid.specs.declared.plane.Line.{Line}
use Rattle.half_grid.specs.declared.border.Operand.{Operand}
use Rattle.half_grid.proofs.ForCallers.{one_line, int_eq_other}
use Rattle.row_lists.specs.declared.event.Event.{Event}
use Rattle.row_lists.specs.Weights.{weight}
use Rattle.row_lists.specs.Halfway.{KeepWeights}
use Rattle.row_lists.specs.Events.{begin_of, end_of, events_of, is_at, amount, ComesBefore, EventsAscend, HaveRows}
use Rattle.row_lists.proofs.ForCallers.{weights_by_events}
use Rattle.plane_sweep.specs.Bundles.{AreOnLines, AreEventsAt, BeginsElsewhere}
use Rattle.plane_sweep.specs.Stops.{IsPassed, IsLeft, EventsAt}
use Rattle.plane_sweep.proofs.BundleLemmas.{share_of, share_elsewhere, amount_nil, amount_cons, amount_append}

-- ---- parts of lists of events

first_part : (P : Event → Type 0) (xs ys : List Event) → All P (xs ++ ys) → All P xs
first_part P [] ys h = All-nil P
first_part P (x ∷ xs) ys h = All-cons P x xs (All-head P x (xs ++ ys) h) (first_part P xs ys (All-tail P x (xs ++ ys) h))

rest_part : (P : Event → Type 0) (xs ys : List Event) → All P (xs ++ ys) → All P ys
rest_part P [] ys h = h
rest_part P (x ∷ xs) ys h = rest_part P xs ys (All-tail P x (xs ++ ys) h)

ascend_part : (xs ys : List Event) → EventsAscend (xs ++ ys) → EventsAscend ys
ascend_part [] ys h = h
ascend_part (x ∷ xs) ys h = ascend_part xs ys h.1

on_lines : (edges : List EdgeParts) → AreOnLines (events_of edges)
on_lines [] = All-nil (λ (e : Event). x_on e.line e.y ≡ e.x)
on_lines (e ∷ edges) =
    All-cons (λ (f : Event). x_on f.line f.y ≡ f.x) (begin_of e) (end_of e ∷ events_of edges) refl
    (All-cons (λ (f : Event). x_on f.line f.y ≡ f.x) (end_of e) (events_of edges) refl (on_lines edges))

all_on_lines : (edges : List EdgeParts) (events : List Event) → IsPermutation (events_of edges) events → AreOnLines events
all_on_lines edges events same = All-permutation (λ (e : Event). x_on e.line e.y ≡ e.x) (events_of edges) events same (on_lines edges)

pub left_on_lines : (edges : List EdgeParts) (y x : ℤ) (left : List Event) → EventsAt edges y x left → AreOnLines left
left_on_lines edges y x left h = rest_part (λ (e : Event). x_on e.line e.y ≡ e.x) h.passed left (all_on_lines edges (h.passed ++ left) h.whole)

-- ---- events elsewhere add nothing

sum_nothing : (a s b : ℤ) → a ≡ s +ℤ b → s ≡ pos 0 → b ≡ pos 0 → a ≡ pos 0
sum_nothing a s b h k m = omega (arith, ints, h, k, m)

nothing_added : (o : Operand) (line : Line) (y : ℤ) (events : List Event) → All (λ e. is_at line y e ≡ false) events → amount o events line y ≡ pos 0
nothing_added o line y [] h = amount_nil o line y
nothing_added o line y (e ∷ events) h =
    sum_nothing _ (share_of o line y e) _ (amount_cons o e events line y) (share_elsewhere o line y e (All-head (λ f. is_at line y f ≡ false) e events h))
    (nothing_added o line y events (All-tail (λ f. is_at line y f ≡ false) e events h))

and_false : (b : Bool) → b && false ≡ false
and_false true = refl
and_false false = refl

other_y : (line : Line) (y : ℤ) (e : Event) → e.y ≢ y → is_at line y e ≡ false
other_y line y e h = let first = int_eq_other e.y y h in rw first refl

other_x : (line : Line) (y : ℤ) (e : Event) → x_on e.line e.y ≡ e.x → e.y ≡ y → e.x ≢ x_on line y → is_at line y e ≡ false
other_x line y e on at h =
    let differ : place e.line y ≢ place line y = λ same. h
    (sym on ∙ (ap (λ (k : ℤ). x_on e.line k) at ∙ ap (λ (l : Line). x_on l y) (one_line e.line line y same))) in
    let second = int_eq_other (place e.line y) (place line y) differ in rw second (and_false (int_eq e.y y))

passed_by : (line : Line) (y x : ℤ) (e : Event) → x_on e.line e.y ≡ e.x → x ≤ℤ x_on line y → IsPassed y x e → is_at line y e ≡ false
passed_by line y x e on far (inl lt) = other_y line y e (λ same. absurd (omega (arith, ints, lt, same)))
passed_by line y x e on far (inr h) = let lt = h.1 in other_x line y e on h.0 (λ same. absurd (omega (arith, ints, lt, far, same)))

left_by : (line : Line) (y x : ℤ) (e : Event) → x_on e.line e.y ≡ e.x → x_on line y <ℤ x → IsLeft y x e → is_at line y e ≡ false
left_by line y x e on near (inl lt) = other_y line y e (λ same. absurd (omega (arith, ints, lt, same)))
left_by line y x e on near (inr h) = let le = h.1 in other_x line y e on h.0 (λ same. absurd (omega (arith, ints, le, near, same)))

all_passed : (line : Line) (y x : ℤ) (events : List Event) → x ≤ℤ x_on line y → AreOnLines events
    → All (IsPassed y x) events → All (λ e. is_at line y e ≡ false) events
all_passed line y x [] far on h = All-nil (λ e. is_at line y e ≡ false)
all_passed line y x (e ∷ events) far on h =
    All-cons (λ f. is_at line y f ≡ false) e events
    (passed_by line y x e (All-head (λ (f : Event). x_on f.line f.y ≡ f.x) e events on) far (All-head (IsPassed y x) e events h))
    (all_passed line y x events far (All-tail (λ (f : Event). x_on f.line f.y ≡ f.x) e events on) (All-tail (IsPassed y x) e events h))

all_left : (line : Line) (y x : ℤ) (events : List Event) → x_on line y <ℤ x → AreOnLines events
    → All (IsLeft y x) events → All (λ e. is_at line y e ≡ false) events
all_left line y x [] near on h = All-nil (λ e. is_at line y e ≡ false)
all_left line y x (e ∷ events) near on h =
    All-cons (λ f. is_at line y f ≡ false) e events
    (left_by line y x e (All-head (λ (f : Event). x_on f.line f.y ≡ f.x) e events on) near (All-head (IsLeft y x) e events h))
    (all_left line y x events near (All-tail (λ (f : Event). x_on f.line f.y ≡ f.x) e events on) (All-tail (IsLeft y x) e events h))

have_rows : (edges : List EdgeParts) → All IsEdge edges → HaveRows edges
have_rows edges known = All-weaker IsEdge (λ e. e.y0 <ℤ e.y1) (λ e h. h.has_rows) edges known

-- ---- which lines keep their weights

sum_kept : (w v a b c : ℤ) → w ≡ v +ℤ a → a ≡ b +ℤ c → b ≡ pos 0 → c ≡ pos 0 → v ≡ w
sum_kept w v a b c h k m n = omega (arith, ints, h, k, m, n)

-- no event is left up to there
pub keep_weights : (edges : List EdgeParts) (y from to : ℤ) (left : List Event) → All IsEdge edges
    → EventsAt edges y from left → All (IsLeft y to) left → KeepWeights edges y from to
keep_weights edges y from to left known h later o line far near =
    let on = all_on_lines edges (h.passed ++ left) h.whole in
    sum_kept _ _ (amount o (h.passed ++ left) line y) (amount o h.passed line y) (amount o left line y)
    (weights_by_events edges (h.passed ++ left) (have_rows edges known) h.whole o line y) (amount_append o h.passed left line y)
    (nothing_added o line y h.passed (all_passed line y from h.passed far (first_part (λ (e : Event). x_on e.line e.y ≡ e.x) h.passed left on) h.before))
    (nothing_added o line y left (all_left line y to left near (rest_part (λ (e : Event). x_on e.line e.y ≡ e.x) h.passed left on) later))

-- ---- over a point

pub further_left : (y x : ℤ) (e f : Event) → IsLeft y x e → ComesBefore e f → IsLeft y x f
further_left y x e f (inl lt) (inl h) = inl (omega (arith, ints, lt, h))
further_left y x e f (inl lt) (inr h) = let same = h.0 in inl (omega (arith, ints, lt, same))
further_left y x e f (inr k) (inl h) = let at = k.0 in inl (omega (arith, ints, at, h))
further_left y x e f (inr k) (inr h) = let at = k.0 in let le = k.1 in let same = h.0 in let more = h.1 in inr
    (omega (arith, ints, at, same), omega (arith, ints, le, more))

not_here : (y x : ℤ) (e : Event) → IsLeft y x e → ((e.y ≡ y) × (e.x ≡ x) → ⊥) → IsLeft y (x +ℤ pos 1) e
not_here y x e (inl lt) other = inl lt
not_here y x e (inr h) other =
    let le = h.1 in
    inr (h.0, by_lt_z x e.x (λ lt. omega (arith, ints, lt)) (λ ge. absurd (other (h.0, omega (arith, ints, le, ge)))))

-- all events that are left are beyond the point where the first is
pub all_beyond : (y x : ℤ) (events : List Event) → All (IsLeft y x) events → EventsAscend events
    → BeginsElsewhere y x events → All (IsLeft y (x +ℤ pos 1)) events
all_beyond y x [] h ascend other = All-nil (IsLeft y (x +ℤ pos 1))
all_beyond y x (e ∷ events) h ascend other =
    let first = not_here y x e (All-head (IsLeft y x) e events h) other in
    All-cons (IsLeft y (x +ℤ pos 1)) e events first
    (All-weaker (ComesBefore e) (IsLeft y (x +ℤ pos 1)) (λ f k. further_left y (x +ℤ pos 1) e f first k) events ascend.0)

one_passed : (y x : ℤ) (e : Event) → IsPassed y x e → IsPassed y (x +ℤ pos 1) e
one_passed y x e (inl lt) = inl lt
one_passed y x e (inr h) = let lt = h.1 in inr (h.0, omega (arith, ints, lt))

module _ (edges : List EdgeParts) (y x : ℤ) (here left : List Event) (h : EventsAt edges y x (here ++ left))
    (at : AreEventsAt y x here) (other : BeginsElsewhere y x left) where
  pub beyond : All (IsLeft y (x +ℤ pos 1)) left
  beyond = all_beyond y x left (rest_part (IsLeft y x) here left h.after) (ascend_part here left h.ascend) other

  pub over_events : EventsAt edges y (x +ℤ pos 1) left
  over_events = record {
    passed = h.passed ++ here;
    whole = subst (IsPermutation (events_of edges)) (sym (append_assoc h.passed here left)) h.whole;
    ascend = ascend_part here left h.ascend;
    before = All-append (IsPassed y (x +ℤ pos 1)) h.passed here
        (All-weaker (IsPassed y x) (IsPassed y (x +ℤ pos 1)) (λ e k. one_passed y x e k) h.passed h.before)
        (All-weaker (λ (e : Event). (e.y ≡ y) × (e.x ≡ x)) (IsPassed y (x +ℤ pos 1)) (λ e k. (let same = k.1 in inr (k.0, omega (arith, ints, same)))) here at);
    after = beyond;
  }

  sum_there : (w v a b c d e : ℤ) → w ≡ v +ℤ a → a ≡ b +ℤ c → b ≡ pos 0 → c ≡ d +ℤ e → e ≡ pos 0 → v +ℤ d ≡ w
  sum_there w v a b c d e p q r s t = omega (arith, ints, p, q, r, s, t)

  -- a line through the point has the weight below and what the events there add
  pub weight_here : All IsEdge edges → (o : Operand) (line : Line) → x_on line y ≡ x
      → weight o edges (y -ℤ pos 1) (place line (y -ℤ pos 1)) +ℤ amount o here line y ≡ weight o edges y (place line y)
  weight_here known o line there =
      let on = all_on_lines edges (h.passed ++ (here ++ left)) h.whole in
      let later = rest_part (λ (e : Event). x_on e.line e.y ≡ e.x) h.passed (here ++ left) on in
      sum_there _ _ (amount o (h.passed ++ (here ++ left)) line y) (amount o h.passed line y)
      (amount o (here ++ left) line y) (amount o here line y) (amount o left line y)
      (weights_by_events edges (h.passed ++ (here ++ left)) (have_rows edges known) h.whole o line y) (amount_append o h.passed (here ++ left) line y)
      (nothing_added o line y h.passed
      (all_passed line y x h.passed (omega (arith, ints, there))
      (first_part (λ (e : Event). x_on e.line e.y ≡ e.x) h.passed (here ++ left) on) h.before))
      (amount_append o here left line y)
      (nothing_added o line y left
      (all_left line y (x +ℤ pos 1) left (omega (arith, ints, there))
      (rest_part (λ (e : Event). x_on e.line e.y ≡ e.x) here left later) beyond))

-- where none is left up to a point further right, the events are the same there
pub events_further : (edges : List EdgeParts) (y from to : ℤ) (left : List Event) → from ≤ℤ to
    → EventsAt edges y from left → All (IsLeft y to) left → EventsAt edges y to left
events_further edges y from to left up h later = record {
  passed = h.passed;
  whole = h.whole;
  ascend = h.ascend;
  before = All-weaker (IsPassed y from) (IsPassed y to) (λ e k. passed_further e k) h.passed h.before;
  after = later;
}
  where
    passed_further : (e : Event) → IsPassed y from e → IsPassed y to e
    passed_further e (inl lt) = inl lt
    passed_further e (inr k) = let lt = k.1 in inr (k.0, omega (arith, ints, lt, up))
