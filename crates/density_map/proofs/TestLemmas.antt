-- Trapezoids that share no tile, since one lies above the other.
use Rattle.std.proofs.Common.{◌+◌, ◌≤◌, ◌≡◌, Bool, true, false, ℤ, ◌≤ℤ◌, [], ◌∷◌, arith, refl, subst, sym}
use Rattle.std.proofs.lemmas.Int.{ints}
use Rattle.std.proofs.lemmas.List.Sums.{sum_by-cons}
use Rattle.half_grid.specs.Trapezoids.{Trapezoid, trapezoid_has}
use Rattle.half_grid.proofs.ForCallers.{has_in}
use Rattle.density_map.specs.Rows.{RowMap, row_map, IsMapOf, IsApartFrom, IsAdded}
use Rattle.density_map.proofs.RowLemmas.{bit}
use Rattle.density_map.proofs.LawLemmas.{one_more}

one_bit : (b : Bool) → bit b ≤ 1
one_bit true = omega arith
one_bit false = omega arith

none_counted : (m : RowMap) (size row : ℤ) → m ≡ row_map size row [] → IsMapOf m []
none_counted m size row e = subst (λ (n : RowMap). IsMapOf n []) (sym e) (λ i. refl)

pub first_apart : (m : RowMap) (size row : ℤ) (z : Trapezoid) → m ≡ row_map size row [] → IsApartFrom m z
first_apart m size row z e = record {
  traps = [];
  counted = none_counted m size row e;
  apart = λ t. (let one = sum_by-cons (λ (y : Trapezoid). bit (trapezoid_has t y)) z [] in let small = one_bit
      (trapezoid_has t z) in omega (arith, one, small));
}

not_both : (a b : Bool) → (a ≡ true → b ≡ true → ⊥) → bit a + bit b ≤ 1
not_both true true h = absurd (h refl refl)
not_both true false h = omega arith
not_both false b h = let small = one_bit b in omega (arith, small)

pub second_apart : (m new : RowMap) (size row : ℤ) (y z : Trapezoid) → m ≡ row_map size row [] → IsAdded m y new → y.y1 ≤ℤ z.y0 → IsApartFrom new z
second_apart m new size row y z e added above = record {
  traps = y ∷ [];
  counted = one_more m new [] y (none_counted m size row e) added;
  apart = λ t. (
      let first = sum_by-cons (λ (x : Trapezoid). bit (trapezoid_has t x)) y (z ∷ []) in
      let second = sum_by-cons (λ (x : Trapezoid). bit (trapezoid_has t x)) z [] in
      let small = not_both (trapezoid_has t y) (trapezoid_has t z)
      (λ a b. (let p = has_in t y a in let q = has_in t z b in let low = q.above_bottom in let high =
      p.below_top in omega (arith, ints, above, low, high))) in
      omega (arith, first, second, small)
      );
}
