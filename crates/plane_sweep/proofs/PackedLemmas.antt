-- What a packed event stands for.
use Rattle.std.proofs.Common.{ℕ, ℤ, pos, negsuc, ◌+◌, ◌*◌, ◌/◌, ◌%◌, ◌^◌, ◌+ℤ◌, ◌-ℤ◌, ◌≡◌, Bool, true, false, arith, refl, sym, ap}
use Rattle.std.proofs.Common.{subst, ◌∙◌, suc, ◌<◌, ◌≤◌, ◌≤ℤ◌, ◌<ℤ◌, ◌⊎◌, inl, inr, List, [], ◌∷◌, length, slice_index_or, add-one, int_cmp, is_lt}
use Rattle.std.specs.Ordering.{ordering_then}
use Rattle.std.proofs.lemmas.Int.{ints, by_lt_z}
use Rattle.std.proofs.lemmas.List.Elements.{All-nil, All-cons, All-weaker}
use Rattle.half_grid.specs.Halves.{half, twice}
use Rattle.half_grid.specs.Lines.{x_on}
use Rattle.half_grid.specs.declared.border.Operand.{Operand}
use Rattle.half_grid.specs.declared.border.Operand.TheVariants.{A, B}
use Rattle.half_grid.specs.declared.plane.Line.{Line}
use Rattle.half_grid.specs.declared.plane.Line.TheVariants.{Upright, Rising, Falling}
use Rattle.half_grid.specs.Edges.{EdgeParts, IsEdge}
use Rattle.row_lists.specs.declared.event.Event.{Event}
use Rattle.row_lists.specs.Events.{begin_of, end_of, ComesBefore, EventsAscend}
use Rattle.row_lists.proofs.ForCallers.{before_both}
use Rattle.plane_sweep.specs.PackedEvents.{line_kind, operand_kind, way_kind, kind_of, event_at, x_of, unpacked, IsPlaced}

half_twice : (z : ℤ) → half (twice z) ≡ z
half_twice (pos n) = let e : (n + n) / 2 ≡ n = omega arith in ap pos e
half_twice (negsuc n) = let e : suc (n + n) / 2 ≡ n = omega arith in ap negsuc e

rising : (c y : ℤ) → half ((twice c +ℤ y) -ℤ y) ≡ c
rising c y = let e : (twice c +ℤ y) -ℤ y ≡ twice c = omega (arith, ints) in ap half e ∙ half_twice c

falling : (c y : ℤ) → half ((twice c -ℤ y) +ℤ y) ≡ c
falling c y = let e : (twice c -ℤ y) +ℤ y ≡ twice c = omega (arith, ints) in ap half e ∙ half_twice c

abbrev plain : ℤ → ℤ → Line → Bool → Operand → Event
plain y x line up operand = record { y = y; x = x; line = line; up = up; operand = operand }

-- kind, X and Y give each part back
back : (y : ℤ) (line : Line) (up : Bool) (o : Operand)
    → event_at (line_kind line + operand_kind o + way_kind up) (x_on line y) y ≡ plain y (x_on line y) line up o
back y (Upright c) true A = refl
back y (Upright c) true B = refl
back y (Upright c) false A = refl
back y (Upright c) false B = refl
back y (Rising c) true A = ap (λ (n : ℤ). plain y (twice c +ℤ y) (Rising n) true A) (rising c y)
back y (Rising c) true B = ap (λ (n : ℤ). plain y (twice c +ℤ y) (Rising n) true B) (rising c y)
back y (Rising c) false A = ap (λ (n : ℤ). plain y (twice c +ℤ y) (Rising n) false A) (rising c y)
back y (Rising c) false B = ap (λ (n : ℤ). plain y (twice c +ℤ y) (Rising n) false B) (rising c y)
back y (Falling c) true A = ap (λ (n : ℤ). plain y (twice c -ℤ y) (Falling n) true A) (falling c y)
back y (Falling c) true B = ap (λ (n : ℤ). plain y (twice c -ℤ y) (Falling n) true B) (falling c y)
back y (Falling c) false A = ap (λ (n : ℤ). plain y (twice c -ℤ y) (Falling n) false A) (falling c y)
back y (Falling c) false B = ap (λ (n : ℤ). plain y (twice c -ℤ y) (Falling n) false B) (falling c y)

kind_small : (line : Line) (up : Bool) (o : Operand) → (line_kind line + operand_kind o + way_kind up) / 12 ≡ 0
kind_small (Upright c) true A = refl
kind_small (Upright c) true B = refl
kind_small (Upright c) false A = refl
kind_small (Upright c) false B = refl
kind_small (Rising c) true A = refl
kind_small (Rising c) true B = refl
kind_small (Rising c) false A = refl
kind_small (Rising c) false B = refl
kind_small (Falling c) true A = refl
kind_small (Falling c) true B = refl
kind_small (Falling c) false A = refl
kind_small (Falling c) false B = refl

low : (m k : ℕ) → k / 12 ≡ 0 → (m * 16 + k) % 16 ≡ k
low m k h = omega (arith, h)

high : (m k : ℕ) → k / 12 ≡ 0 → (m * 16 + k) / 16 ≡ m
high m k h = omega (arith, h)

moved : (m : ℕ) (x : ℤ) → pos m ≡ x +ℤ pos (2 ^ 44) → pos m -ℤ pos (2 ^ 44) ≡ x
moved m x h = omega (arith, ints, h)

-- what was packed comes back
pub unpacked_same : (e : Event) (m : ℕ) → e.x ≡ x_on e.line e.y → pos m ≡ e.x +ℤ pos (2 ^ 44) → unpacked e.y (m * 16 + kind_of e) ≡ e
unpacked_same e m on_line up =
    let small = kind_small e.line e.up e.operand in
    let x_back : x_of (m * 16 + kind_of e) ≡ x_on e.line e.y = ap (λ (n : ℕ). pos n -ℤ pos (2 ^ 44)) (high m (kind_of e) small) ∙ (moved m e.x up ∙ on_line) in
    ap (λ (k : ℕ). event_at k (x_of (m * 16 + kind_of e)) e.y) (low m (kind_of e) small)
    ∙ (ap (λ (x : ℤ). event_at (kind_of e) x e.y) x_back
    ∙ (back e.y e.line e.up e.operand ∙ ap (λ (x : ℤ). plain e.y x e.line e.up e.operand) (sym on_line)))

pub begin_placed : (e : EdgeParts) (f : Event) → f ≡ begin_of e → IsEdge e → IsPlaced f
begin_placed e f same is = subst IsPlaced (sym same) (record { on_line = refl; within = is.lower_end })

pub end_placed : (e : EdgeParts) (f : Event) → f ≡ end_of e → IsEdge e → IsPlaced f
end_placed e f same is = subst IsPlaced (sym same) (record { on_line = refl; within = is.upper_end })

-- ---- in order

spot_before : (a b c d : ℤ) → is_lt (ordering_then (int_cmp a b) (int_cmp c d)) ≡ false → (b <ℤ a) ⊎ ((b ≡ a) × (d ≤ℤ c))
spot_before a b c d h =
    by_lt_z b a (λ lt. inl lt)
    (λ le. by_lt_z a b (λ lt. absurd (grind (arith, ints)))
    (λ ge. inr (omega (arith, ints, le, ge), grind (arith, ints))))

ascend_from : (events : List Event) → ((k : ℕ) (d : Event) → suc k < length events
    → ComesBefore (slice_index_or events k d) (slice_index_or events (suc k) d)) → EventsAscend events
ascend_from [] h = tt
ascend_from (e ∷ []) h = (All-nil (ComesBefore e), tt)
ascend_from (e ∷ f ∷ events) h =
    let here : ComesBefore e f = h 0 e (omega arith) in
    let later = ascend_from (f ∷ events) (λ k d lt. h (suc k) d (omega (arith, lt))) in
    (All-cons (ComesBefore e) f events here (All-weaker (ComesBefore f) (ComesBefore e) (λ g k. before_both e f g here k) events later.0), later)

pub ascend_sorted : (events : List Event) → ((k : ℕ) (d : Event) → 0 ≤ k → k + 1 < length events
    → is_lt (ordering_then (int_cmp (slice_index_or events (k + 1) d).y (slice_index_or events k d).y) (int_cmp (slice_index_or events (k + 1) d).x
    (slice_index_or events k d).x)) ≡ false)
    → EventsAscend events
ascend_sorted events h =
    ascend_from events (λ k d lt. (let at = h k d (omega arith) (omega (arith, lt)) in
    let before : ComesBefore (slice_index_or events k d) (slice_index_or events (k + 1) d) = spot_before _ _ _ _ at in rw add-one at before))
