-- Weights from row to row, by events.
use Rattle.std.proofs.Common.{ℕ, ℤ, pos, suc, ◌≡◌, ◌+◌, ◌<◌, ◌≤◌, ◌+ℤ◌, ◌-ℤ◌, ◌≤ℤ◌, ◌<ℤ◌, ◌⊎◌, inl, inr, Bool, true}
use Rattle.std.proofs.Common.{false, ◌&&◌, not, List, [], ◌∷◌, ◌++◌, length, slice_index_or, arith, add-one, refl, ap}
use Rattle.std.proofs.Common.{sym, ◌∙◌, int_cmp, is_lt}
use Rattle.std.specs.Prelude.{IsPermutation}
use Rattle.std.specs.Ordering.{int_eq, ordering_then}
use Rattle.std.proofs.lemmas.Int.{ints, by_lt_z}
use Rattle.std.proofs.lemmas.List.Elements.{All-nil, All-cons, All-head, All-tail, All-weaker}
use Rattle.std.proofs.lemmas.List.Sorted.{sum_by-IsPermutation}
use Rattle.half_grid.specs.Edges.{EdgeParts, spans, is_of}
use Rattle.half_grid.specs.Rows.{place}
use Rattle.half_grid.specs.Winding.{count_one}
use Rattle.half_grid.specs.declared.plane.Line.{Line}
use Rattle.half_grid.specs.declared.border.Operand.{Operand}
use Rattle.half_grid.proofs.ForCallers.{count_by-cons}
use Rattle.row_lists.specs.declared.event.Event.{Event}
use Rattle.row_lists.specs.Weights.{weight}
use Rattle.row_lists.specs.Events.{begin_of, end_of, events_of, adds_at, takes_at, amount, ComesBefore, EventsAscend, HaveRows}
use Rattle.row_lists.proofs.Steps.{share, weight_nil, weight_cons, same_place}

-- what one event adds
abbrev event_share : Operand → Line → ℤ → Event → ℤ
event_share o line y e = pos (count_one (adds_at o line y e)) -ℤ pos (count_one (takes_at o line y e))

split : (a b c d e f : ℕ) → a ≡ c + e → b ≡ d + f → pos a -ℤ pos b ≡ (pos c -ℤ pos d) +ℤ (pos e -ℤ pos f)
split a b c d e f h k = omega (arith, ints)

amount_cons : (o : Operand) (e : Event) (events : List Event) (line : Line) (y : ℤ)
    → amount o (e ∷ events) line y ≡ event_share o line y e +ℤ amount o events line y
unfolding amount
amount_cons o e events line y = split _ _ _ _ _ _ (count_by-cons (adds_at o line y) e events) (count_by-cons (takes_at o line y) e events)

amount_nil : (o : Operand) (line : Line) (y : ℤ) → amount o [] line y ≡ pos 0
unfolding amount
amount_nil o line y = refl

pub amount_permuted : (o : Operand) (events others : List Event) (line : Line) (y : ℤ) → IsPermutation events others
    → amount o others line y ≡ amount o events line y
unfolding amount
amount_permuted o events others line y h = rw (sum_by-IsPermutation _ events others h, sum_by-IsPermutation _ events others h) refl

-- ---- one edge

keep : (b : Bool) → count_one (b && true) ≡ count_one b
keep true = refl
keep false = refl

gone : (b : Bool) → count_one (b && false) ≡ 0
gone true = refl
gone false = refl

signed : (of up now before same first last : Bool) → count_one now + count_one last ≡ count_one before + count_one first
    → pos (count_one (of && (up && (now && same)))) -ℤ pos (count_one (of && (not up && (now && same))))
    ≡ (pos (count_one (of && (up && (before && same)))) -ℤ pos (count_one (of && (not up && (before && same)))))
    +ℤ ((pos (count_one (of && (up && (first && same)))) -ℤ pos (count_one (of && (not up && (first && same)))))
    +ℤ (pos (count_one (of && (not up && (last && same)))) -ℤ pos (count_one (of && (not (not up) && (last && same))))))
signed false up now before same first last h = refl
signed true true now before true first last h = omega (arith, ints, keep now, keep before, keep first, keep last, h)
signed true false now before true first last h = omega (arith, ints, keep now, keep before, keep first, keep last, h)
signed true true now before false first last h = omega (arith, ints, gone now, gone before, gone first, gone last)
signed true false now before false first last h = omega (arith, ints, gone now, gone before, gone first, gone last)

counted : (a b c d : Bool) (p q r s : Bool) → a ≡ p → b ≡ q → c ≡ r → d ≡ s → count_one p + count_one q ≡ count_one r + count_one s
    → count_one a + count_one b ≡ count_one c + count_one d
counted a b c d p q r s e f g h k = rw (e, f, g, h) k

-- of a row and the one below it the edge spans both, or none, or begins or ends between them
span_step : (e : EdgeParts) (j : ℤ) → e.y0 <ℤ e.y1
    → count_one (spans e j) + count_one (int_eq e.y1 j) ≡ count_one (spans e (j -ℤ pos 1)) + count_one (int_eq e.y0 j)
span_step e j rows =
    by_lt_z j e.y0
    (λ lt. counted _ _ _ _ false false false false (grind (arith, ints)) (grind (arith, ints)) (grind (arith, ints)) (grind (arith, ints)) refl)
    (λ le. by_lt_z e.y0 j
    (λ above. by_lt_z j e.y1
    (λ inside. counted _ _ _ _ true false true false (grind (arith, ints)) (grind (arith, ints)) (grind (arith, ints)) (grind (arith, ints)) refl)
    (λ past. by_lt_z e.y1 j
    (λ over. counted _ _ _ _ false false false false (grind (arith, ints)) (grind (arith, ints)) (grind (arith, ints)) (grind (arith, ints)) refl)
    (λ end. counted _ _ _ _ false true true false (grind (arith, ints)) (grind (arith, ints)) (grind (arith, ints)) (grind (arith, ints)) refl)))
    (λ begin. counted _ _ _ _ true false false true (grind (arith, ints)) (grind (arith, ints)) (grind (arith, ints)) (grind (arith, ints)) refl))

edge_step : (o : Operand) (e : EdgeParts) (line : Line) (j : ℤ) → e.y0 <ℤ e.y1
    → share o j (place line j) e ≡ share o (j -ℤ pos 1) (place line (j -ℤ pos 1)) e +ℤ (event_share o line j (begin_of e) +ℤ event_share o line j (end_of e))
edge_step o e line j rows =
    let p = sym (same_place e.line line j (j -ℤ pos 1)) in
    rw p (signed (is_of o e.operand) e.up (spans e j) (spans e (j -ℤ pos 1)) (int_eq (place e.line j) (place line j)) (int_eq e.y0 j)
    (int_eq e.y1 j) (span_step e j rows))

-- ---- all edges

sum_step : (w p x v q y a b s t m : ℤ) → w ≡ p +ℤ x → v ≡ q +ℤ y → a ≡ s +ℤ b → b ≡ t +ℤ m → p ≡ q +ℤ (s +ℤ t) → x ≡ y +ℤ m → w ≡ v +ℤ a
sum_step w p x v q y a b s t m h k f g e l = omega (arith, ints, h, k, f, g, e, l)

zero_step : (x y z : ℤ) → x ≡ pos 0 → y ≡ pos 0 → z ≡ pos 0 → x ≡ y +ℤ z
zero_step x y z a b c = omega (arith, ints, a, b, c)

by_own_events : (edges : List EdgeParts) → HaveRows edges → (o : Operand) (line : Line) (j : ℤ)
    → weight o edges j (place line j) ≡ weight o edges (j -ℤ pos 1) (place line (j -ℤ pos 1)) +ℤ amount o (events_of edges) line j
by_own_events [] rows o line j = zero_step _ _ _ (weight_nil o j (place line j)) (weight_nil o (j -ℤ pos 1) (place line (j -ℤ pos 1))) (amount_nil o line j)
by_own_events (e ∷ edges) rows o line j =
    let P : EdgeParts → Type 0 = λ f. f.y0 <ℤ f.y1 in
    let below = j -ℤ pos 1 in
    sum_step _ (share o j (place line j) e) (weight o edges j (place line j)) _ (share o below (place line below) e) (weight o edges below (place line below))
    _ (amount o (end_of e ∷ events_of edges) line j) (event_share o line j (begin_of e)) (event_share o line j (end_of e)) (amount o (events_of edges) line j)
    (weight_cons o e edges j (place line j)) (weight_cons o e edges below (place line below))
    (amount_cons o (begin_of e) (end_of e ∷ events_of edges) line j) (amount_cons o (end_of e) (events_of edges) line j)
    (edge_step o e line j (All-head P e edges rows)) (by_own_events edges (All-tail P e edges rows) o line j)

pub weights_by_events : (edges : List EdgeParts) (events : List Event) → HaveRows edges → IsPermutation (events_of edges) events
    → (o : Operand) (line : Line) (j : ℤ) → weight o edges j (place line j) ≡ weight o edges (j -ℤ pos 1) (place line (j -ℤ pos 1)) +ℤ amount o events line j
weights_by_events edges events rows same o line j =
    by_own_events edges rows o line j
    ∙ ap (λ (a : ℤ). weight o edges (j -ℤ pos 1) (place line (j -ℤ pos 1)) +ℤ a) (sym (amount_permuted o (events_of edges) events line j same))

-- ---- in order

spot_before : (a b c d : ℤ) → is_lt (ordering_then (int_cmp a b) (int_cmp c d)) ≡ false → (b <ℤ a) ⊎ ((b ≡ a) × (d ≤ℤ c))
spot_before a b c d h =
    by_lt_z b a (λ lt. inl lt)
    (λ le. by_lt_z a b (λ lt. absurd (grind (arith, ints)))
    (λ ge. inr (omega (arith, ints, le, ge), grind (arith, ints))))

then_le : (a b c d : ℤ) → (a <ℤ b) ⊎ ((a ≡ b) × (c ≤ℤ d)) → a ≤ℤ b
then_le a b c d (inl lt) = omega (arith, ints, lt)
then_le a b c d (inr h) = let same = h.0 in omega (arith, ints, same)

pub before_both : (e f g : Event) → ComesBefore e f → ComesBefore f g → ComesBefore e g
before_both e f g (inl lt) h = let le = then_le f.y g.y f.x g.x h in inl (omega (arith, ints, lt, le))
before_both e f g (inr h) (inl lt) = let same = h.0 in inl (omega (arith, ints, lt, same))
before_both e f g (inr h) (inr k) =
    let a = h.0 in let b = k.0 in let c = h.1 in let d = k.1 in
    inr (omega (arith, ints, a, b), omega (arith, ints, c, d))

ascend_from : (events : List Event) → ((k : ℕ) (d : Event) → suc k < length events
    → ComesBefore (slice_index_or events k d) (slice_index_or events (suc k) d)) → EventsAscend events
ascend_from [] h = tt
ascend_from (e ∷ []) h = (All-nil (ComesBefore e), tt)
ascend_from (e ∷ f ∷ events) h =
    let here : ComesBefore e f = h 0 e (omega arith) in
    let later = ascend_from (f ∷ events) (λ k d lt. h (suc k) d (omega (arith, lt))) in
    (All-cons (ComesBefore e) f events here (All-weaker (ComesBefore f) (ComesBefore e) (λ g k. before_both e f g here k) events later.0), later)

pub ascend_sorted : (events : List Event) → ((k : ℕ) (d : Event) → 0 ≤ k → k + 1 < length events
    → is_lt (ordering_then (int_cmp (slice_index_or events (k + 1) d).y (slice_index_or events k d).y) (int_cmp (slice_index_or events (k + 1) d).x
    (slice_index_or events k d).x)) ≡ false)
    → EventsAscend events
ascend_sorted events h =
    ascend_from events (λ k d lt. (let at = h k d (omega arith) (omega (arith, lt)) in
    let before : ComesBefore (slice_index_or events k d) (slice_index_or events (k + 1) d) = spot_before _ _ _ _ at in rw add-one at before))

-- ---- one edge more

pub events_more : (edges : List EdgeParts) (e : EdgeParts) → events_of (edges ++ e ∷ []) ≡ (events_of edges ++ begin_of e ∷ []) ++ end_of e ∷ []
events_more [] e = refl
events_more (f ∷ edges) e = ap (λ (events : List Event). begin_of f ∷ end_of f ∷ events) (events_more edges e)
