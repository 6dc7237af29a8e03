-- Members of a list of trapezoids, and the number of those that have a tile.
use Rattle.std.proofs.Common.{◌≡◌, ℕ, zero, suc, ◌≤◌, ◌+◌, ◌++◌, Bool, true, false, arith, refl, ◌∙◌, sym, List, [], ◌∷◌}
use Rattle.std.proofs.lemmas.List.Elements.{Contains-push_cases, Contains-append_cases, Contains-append_right, Contains-append_left, Contains-push}
use Rattle.std.specs.List.{Contains}
use mathlib.Core.Logic.{◌⊎◌, inl, inr}
use Rattle.half_grid.specs.Trapezoids.{Trapezoid, IsInTrapezoid, count_in, trapezoid_has}
use Rattle.half_grid.specs.declared.plane.Tile.{Tile}
use Rattle.half_grid.proofs.ForCallers.{count_by-cons, has_in, in_has}

-- ---- members

pub none_in_empty : (z : Trapezoid) → Contains [] z → ⊥
none_in_empty z h = omega (arith, h.1)

among_rest : (x z : Trapezoid) (xs : List Trapezoid) → Contains xs z → Contains (x ∷ xs) z
among_rest x z xs h = Contains-append_right (x ∷ []) xs z h

is_first : (x : Trapezoid) (xs : List Trapezoid) → Contains (x ∷ xs) x
is_first x xs = Contains-append_left (x ∷ []) xs x (Contains-push [] x)

only_one : (x z : Trapezoid) → Contains (x ∷ []) z → x ≡ z
only_one x z h = elim (Contains-push_cases [] x z h) [ inl e ↦ absurd (none_in_empty z e) | inr e ↦ e ]

first_or_later : (x z : Trapezoid) (xs : List Trapezoid) → Contains (x ∷ xs) z → (x ≡ z) ⊎ Contains xs z
first_or_later x z xs h = elim (Contains-append_cases (x ∷ []) xs z h) [ inl e ↦ inl (only_one x z e) | inr e ↦ inr e ]

-- ---- counts

counted_first : (t : Tile) (x : Trapezoid) (xs : List Trapezoid) → trapezoid_has t x ≡ true → count_in (x ∷ xs) t ≡ suc (count_in xs t)
counted_first t x xs e = count_by-cons (trapezoid_has t) x xs ∙ (rw e (omega arith))

counted_not : (t : Tile) (x : Trapezoid) (xs : List Trapezoid) → trapezoid_has t x ≡ false → count_in (x ∷ xs) t ≡ count_in xs t
counted_not t x xs e = count_by-cons (trapezoid_has t) x xs ∙ (rw e (omega arith))

counted_later : (t : Tile) (x : Trapezoid) (xs : List Trapezoid) → count_in xs t ≤ count_in (x ∷ xs) t
counted_later t x xs = omega (arith, count_by-cons (trapezoid_has t) x xs)

-- A tile of a member is counted.
pub counted : (t : Tile) (z : Trapezoid) (xs : List Trapezoid) → Contains xs z → trapezoid_has t z ≡ true → 1 ≤ count_in xs t
counted t z [] h e = absurd (none_in_empty z h)
counted t z (x ∷ xs) h e =
    elim (first_or_later x z xs h) [
      | inl s ↦ (let here = counted_first t x xs (rw s e) in omega (arith, here))
      | inr s ↦ (let later = counted t z xs s e in let more = counted_later t x xs in omega (arith, later, more))
    ]

-- some member has the tile
abbrev pub Found : Tile → List Trapezoid → Type 0
Found t xs = (z : Trapezoid) × Contains xs z × (trapezoid_has t z ≡ true)

found_later : (t : Tile) (x : Trapezoid) (xs : List Trapezoid) → Found t xs → Found t (x ∷ xs)
found_later t x xs h = (h.0, among_rest x h.0 xs h.1, h.2)

found_by : (t : Tile) (x : Trapezoid) (xs : List Trapezoid) (b : Bool) → trapezoid_has t x ≡ b
    → 1 ≤ count_in (x ∷ xs) t → (1 ≤ count_in xs t → Found t xs) → Found t (x ∷ xs)
found_by t x xs true e h later = (x, is_first x xs, e)
found_by t x xs false e h later =
    let n = counted_not t x xs e in
    found_later t x xs (later (omega (arith, n, h)))

-- A tile that is counted is in some member.
pub found : (t : Tile) (xs : List Trapezoid) → 1 ≤ count_in xs t → Found t xs
found t [] h = absurd (omega (arith, h))
found t (x ∷ xs) h = found_by t x xs _ refl h (found t xs)

twice_counted : (t : Tile) (x z : Trapezoid) (xs : List Trapezoid) {P : Type 0} → count_in (x ∷ xs) t ≤ 1
    → trapezoid_has t x ≡ true → Contains xs z → trapezoid_has t z ≡ true → P
twice_counted t x z xs {P} n ex hz ez = let here = counted_first t x xs ex in let later = counted t z xs hz ez in absurd (omega (arith, n, here, later))

-- A tile that is counted at most once is in at most one member.
pub one_only : (t : Tile) (xs : List Trapezoid) (y z : Trapezoid) → count_in xs t ≤ 1 → Contains xs y → Contains xs z
    → trapezoid_has t y ≡ true → trapezoid_has t z ≡ true → y ≡ z
one_only t [] y z n hy hz ey ez = absurd (none_in_empty y hy)
one_only t (x ∷ xs) y z n hy hz ey ez =
    elim (first_or_later x y xs hy) [
      | inl sy ↦ elim (first_or_later x z xs hz) [ inl sz ↦ sym sy ∙ sz | inr sz ↦ twice_counted t x z xs n (rw sy ey) sz ez ]
      | inr sy ↦ elim (first_or_later x z xs hz) [
        | inl sz ↦ twice_counted t x y xs n (rw sz ez) sy ey
        | inr sz ↦
            one_only t xs y z (let more = counted_later t x xs in omega (arith, n, more)) sy sz ey ez
      ]
    ]

-- ---- the same of tiles that are in a trapezoid

pub counted_in : (t : Tile) (z : Trapezoid) (xs : List Trapezoid) → Contains xs z → IsInTrapezoid z t → 1 ≤ count_in xs t
counted_in t z xs h inside = counted t z xs h (in_has t z inside)

pub found_in : (t : Tile) (xs : List Trapezoid) → 1 ≤ count_in xs t → (z : Trapezoid) × Contains xs z × IsInTrapezoid z t
found_in t xs h = let there = found t xs h in (there.0, there.1, has_in t there.0 there.2)

-- how many of two lists have a tile
pub count_append : (t : Tile) (xs ys : List Trapezoid) → count_in (xs ++ ys) t ≡ count_in xs t + count_in ys t
count_append t [] ys = omega arith
count_append t (x ∷ xs) ys = count_by-cons (trapezoid_has t) x (xs ++ ys) ∙ omega (arith, count_append t xs ys, count_by-cons (trapezoid_has t) x xs)

in_by : (b : Bool) (t : Tile) (z : Trapezoid) → trapezoid_has t z ≡ b → IsInTrapezoid z t ⊎ (IsInTrapezoid z t → ⊥)
in_by true t z e = inl (has_in t z e)
in_by false t z e = inr (λ h. absurd (cc (in_has t z h, e)))

-- a tile is in a trapezoid, or it isn't
pub in_or_not : (t : Tile) (z : Trapezoid) → IsInTrapezoid z t ⊎ (IsInTrapezoid z t → ⊥)
in_or_not t z = in_by _ t z refl

some_or_none : (n : ℕ) → (n ≡ 0) ⊎ (1 ≤ n)
some_or_none zero = inl refl
some_or_none (suc n) = inr (omega arith)

-- no member has a tile, or some has
pub any_or_none : (t : Tile) (xs : List Trapezoid) → (count_in xs t ≡ 0) ⊎ (1 ≤ count_in xs t)
any_or_none t xs = some_or_none (count_in xs t)
