-- How many trapezoids of a list have a tile, by its members.
use Rattle.std.proofs.Common.{◌≡◌, suc, ◌≤◌, true, List, [], ◌∷◌, arith, sym, ◌∙◌}
use Rattle.std.specs.List.{Contains}
use mathlib.Core.Logic.{inl, inr}
use Rattle.half_grid.specs.Trapezoids.{Trapezoid, IsInTrapezoid, count_in, trapezoid_has}
use Rattle.half_grid.specs.declared.plane.Tile.{Tile}
use Rattle.half_grid.proofs.ForCallers.{in_has, count_by-cons}
use Rattle.fracture.proofs.Members.{first_or_later, none_in_empty}

counted_first : (t : Tile) (x : Trapezoid) (xs : List Trapezoid) → trapezoid_has t x ≡ true → count_in (x ∷ xs) t ≡ suc (count_in xs t)
counted_first t x xs e = count_by-cons (trapezoid_has t) x xs ∙ (rw e (omega arith))

counted_later : (t : Tile) (x : Trapezoid) (xs : List Trapezoid) → count_in xs t ≤ count_in (x ∷ xs) t
counted_later t x xs = omega (arith, count_by-cons (trapezoid_has t) x xs)

-- a tile of a member is counted
counted_by : (t : Tile) (z : Trapezoid) (xs : List Trapezoid) → Contains xs z → trapezoid_has t z ≡ true → 1 ≤ count_in xs t
counted_by t z [] h e = absurd (none_in_empty z h)
counted_by t z (x ∷ xs) h e =
    elim (first_or_later x z xs h) [
      | inl s ↦ (let here = counted_first t x xs (rw s e) in omega (arith, here))
      | inr s ↦ (let later = counted_by t z xs s e in let more = counted_later t x xs in omega (arith, later, more))
    ]

pub counted : (t : Tile) (z : Trapezoid) (xs : List Trapezoid) → Contains xs z → IsInTrapezoid z t → 1 ≤ count_in xs t
counted t z xs at h = counted_by t z xs at (in_has t z h)

twice_counted : (t : Tile) (x z : Trapezoid) (xs : List Trapezoid) {P : Type 0} → count_in (x ∷ xs) t ≤ 1
    → trapezoid_has t x ≡ true → Contains xs z → trapezoid_has t z ≡ true → P
twice_counted t x z xs {P} n ex hz ez = let here = counted_first t x xs ex in let later = counted_by t z xs hz ez in absurd (omega (arith, n, here, later))

only : (t : Tile) (xs : List Trapezoid) (y z : Trapezoid) → count_in xs t ≤ 1 → Contains xs y → Contains xs z
    → trapezoid_has t y ≡ true → trapezoid_has t z ≡ true → y ≡ z
only t [] y z n hy hz ey ez = absurd (none_in_empty y hy)
only t (x ∷ xs) y z n hy hz ey ez =
    elim (first_or_later x y xs hy) [
      | inl sy ↦ elim (first_or_later x z xs hz) [ inl sz ↦ sym sy ∙ sz | inr sz ↦ twice_counted t x z xs n (rw sy ey) sz ez ]
      | inr sy ↦ elim (first_or_later x z xs hz) [
        | inl sz ↦ twice_counted t x y xs n (rw sz ez) sy ey
        | inr sz ↦
            only t xs y z (let more = counted_later t x xs in omega (arith, n, more)) sy sz ey ez
      ]
    ]

-- a tile that is counted at most once is in at most one member
pub one_only : (t : Tile) (xs : List Trapezoid) (y z : Trapezoid) → count_in xs t ≤ 1 → Contains xs y → Contains xs z
    → IsInTrapezoid y t → IsInTrapezoid z t → y ≡ z
one_only t xs y z n hy hz iy iz = only t xs y z n hy hz (in_has t y iy) (in_has t z iz)
