-- Trapezoids sorted by their lower ends.
use Rattle.std.proofs.Common.{◌≡◌, ℕ, suc, ℤ, ◌+◌, ◌<◌, ◌≤◌, ◌≤ℤ◌, false, List, [], ◌∷◌, length, slice_index_or, arith, add-one, int_cmp, is_lt}
use Rattle.std.proofs.lemmas.Int.{ints}
use Rattle.std.proofs.lemmas.List.Elements.{All-cons, All-nil, All-weaker}
use Rattle.half_grid.specs.Trapezoids.{Trapezoid}
use Rattle.file_check.specs.Fronts.{BottomsAscend}

first_le : (a b : ℤ) → is_lt (int_cmp b a) ≡ false → a ≤ℤ b
first_le a b h = grind (arith, ints)

ascend_from : (zs : List Trapezoid)
    → ((k : ℕ) (d : Trapezoid) → suc k < length zs → (slice_index_or zs k d).y0 ≤ℤ (slice_index_or zs (suc k) d).y0)
    → BottomsAscend zs
ascend_from [] h = tt
ascend_from (z ∷ []) h = (All-nil (λ y. z.y0 ≤ℤ y.y0), tt)
ascend_from (z ∷ y ∷ zs) h =
    let here : z.y0 ≤ℤ y.y0 = h 0 z (omega arith) in
    let later = ascend_from (y ∷ zs) (λ k d lt. h (suc k) d (omega (arith, lt))) in
    (All-cons (λ x. z.y0 ≤ℤ x.y0) y zs here (All-weaker (λ x. y.y0 ≤ℤ x.y0) (λ x. z.y0 ≤ℤ x.y0) (λ x k. omega (arith, ints, here, k)) zs later.0), later)

pub ascend_sorted : (zs : List Trapezoid)
    → ((k : ℕ) (d : Trapezoid) → 0 ≤ k → k + 1 < length zs
    → is_lt (int_cmp (slice_index_or zs (k + 1) d).y0 (slice_index_or zs k d).y0) ≡ false) → BottomsAscend zs
ascend_sorted zs h = ascend_from zs
    (λ k d lt. (let at = h k d (omega arith) (omega (arith, lt)) in let le : (slice_index_or zs k d).y0
    ≤ℤ (slice_index_or zs (k + 1) d).y0 = first_le _ _ at in (rw add-one at le)))
