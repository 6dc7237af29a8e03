-- Trapezoids sorted from left to right.
use Rattle.std.proofs.Common.{◌≡◌, ℕ, suc, ℤ, ◌+◌, ◌<◌, ◌≤◌, ◌≤ℤ◌, false, List, [], ◌∷◌, length}
use Rattle.std.proofs.Common.{slice_index_or, arith, add-one, int_cmp, is_lt}
use Rattle.std.proofs.lemmas.Int.{ints}
use Rattle.std.proofs.lemmas.List.Elements.{All-cons, All-nil, All-weaker}
use Rattle.half_grid.specs.Trapezoids.{Trapezoid}
use Rattle.band_areas.specs.Cuts.{top_place, PlacesAscend}

first_le : (a b : ℤ) → is_lt (int_cmp b a) ≡ false → a ≤ℤ b
first_le a b h = grind (arith, ints)

ascend_from : (zs : List Trapezoid)
    → ((k : ℕ) (d : Trapezoid) → suc k < length zs
    → top_place (slice_index_or zs k d) ≤ℤ top_place (slice_index_or zs (suc k) d)) → PlacesAscend zs
ascend_from [] h = tt
ascend_from (z ∷ []) h = (All-nil (λ y. top_place z ≤ℤ top_place y), tt)
ascend_from (z ∷ y ∷ zs) h =
    let here : top_place z ≤ℤ top_place y = h 0 z (omega arith) in
    let later = ascend_from (y ∷ zs) (λ k d lt. h (suc k) d (omega (arith, lt))) in (
      All-cons (λ x. top_place z ≤ℤ top_place x) y zs here
          (All-weaker (λ x. top_place y ≤ℤ top_place x) (λ x. top_place z ≤ℤ top_place x)
          (λ x k. omega (arith, ints, here, k)) zs later.0),
      later,
    )

pub ascend_sorted : (zs : List Trapezoid)
    → ((k : ℕ) (d : Trapezoid) → 0 ≤ k → k + 1 < length zs
    → is_lt (int_cmp (top_place (slice_index_or zs (k + 1) d)) (top_place (slice_index_or zs k d))) ≡ false)
    → PlacesAscend zs
ascend_sorted zs h = ascend_from zs
    (λ k d lt. (let at = h k d (omega arith) (omega (arith, lt)) in let le : top_place
    (slice_index_or zs k d) ≤ℤ top_place (slice_index_or zs (k + 1) d) = first_le _ _ at in (rw add-one at le)))
