-- Members of lists, and how many trapezoids of a list have a tile.
use Rattle.std.proofs.Common.{◌≡◌, ℕ, zero, suc, ◌≤◌, Bool, true, false, cond, arith, refl, ap, subst, ◌∙◌, sym, List, [], ◌∷◌, map, filter}
use Rattle.std.proofs.lemmas.List.Elements.{All-weaker, All-contains_itself, Contains-push_cases, Contains-append_cases}
use Rattle.std.proofs.lemmas.List.Elements.{Contains-append_right, Contains-append_left, Contains-push}
use Rattle.std.specs.List.{All, Any, Contains}
use mathlib.Core.Logic.{◌⊎◌, inl, inr}
use Rattle.half_grid.specs.Trapezoids.{Trapezoid, count_in, trapezoid_has}
use Rattle.half_grid.specs.declared.plane.Tile.{Tile}
use Rattle.half_grid.proofs.ForCallers.{count_by-cons}

module _ {X : Type 0} where
  pub none_in_empty : {P : Type 0} (z : X) → Contains [] z → P
  none_in_empty z h = absurd (omega (arith, h.1))

  pub among_rest : (x z : X) (xs : List X) → Contains xs z → Contains (x ∷ xs) z
  among_rest x z xs h = Contains-append_right (x ∷ []) xs z h

  pub is_first : (x : X) (xs : List X) → Contains (x ∷ xs) x
  is_first x xs = Contains-append_left (x ∷ []) xs x (Contains-push [] x)

  only_one : (x z : X) → Contains (x ∷ []) z → x ≡ z
  only_one x z h = elim (Contains-push_cases [] x z h) [ inl e ↦ none_in_empty z e | inr e ↦ e ]

  pub first_or_later : (x z : X) (xs : List X) → Contains (x ∷ xs) z → (x ≡ z) ⊎ Contains xs z
  first_or_later x z xs h = elim (Contains-append_cases (x ∷ []) xs z h) [ inl e ↦ inl (only_one x z e) | inr e ↦ inr e ]

  -- what holds of each member holds of all
  pub all_members : (P : X → Type 0) (xs : List X) → ((x : X) → Contains xs x → P x) → All P xs
  all_members P xs f = All-weaker (Contains xs) P f xs (All-contains_itself xs)

counted_first : (t : Tile) (x : Trapezoid) (xs : List Trapezoid) → trapezoid_has t x ≡ true → count_in (x ∷ xs) t ≡ suc (count_in xs t)
counted_first t x xs e = count_by-cons (trapezoid_has t) x xs ∙ (rw e (omega arith))

counted_not : (t : Tile) (x : Trapezoid) (xs : List Trapezoid) → trapezoid_has t x ≡ false → count_in (x ∷ xs) t ≡ count_in xs t
counted_not t x xs e = count_by-cons (trapezoid_has t) x xs ∙ (rw e (omega arith))

counted_later : (t : Tile) (x : Trapezoid) (xs : List Trapezoid) → count_in xs t ≤ count_in (x ∷ xs) t
counted_later t x xs = omega (arith, count_by-cons (trapezoid_has t) x xs)

-- a tile of a member is counted
pub counted : (t : Tile) (z : Trapezoid) (xs : List Trapezoid) → Contains xs z → trapezoid_has t z ≡ true → 1 ≤ count_in xs t
counted t z [] h e = none_in_empty z h
counted t z (x ∷ xs) h e =
    elim (first_or_later x z xs h) [
      | inl s ↦ (let here = counted_first t x xs (rw s e) in omega (arith, here))
      | inr s ↦ (let later = counted t z xs s e in let more = counted_later t x xs in omega (arith, later, more))
    ]

-- some member has the tile
abbrev pub Found : Tile → List Trapezoid → Type 0
Found t xs = (z : Trapezoid) × Contains xs z × (trapezoid_has t z ≡ true)

pub found_later : (t : Tile) (x : Trapezoid) (xs : List Trapezoid) → Found t xs → Found t (x ∷ xs)
found_later t x xs h = (h.0, among_rest x h.0 xs h.1, h.2)

found_by : (t : Tile) (x : Trapezoid) (xs : List Trapezoid) (b : Bool) → trapezoid_has t x ≡ b
    → 1 ≤ count_in (x ∷ xs) t → (1 ≤ count_in xs t → Found t xs) → Found t (x ∷ xs)
found_by t x xs true e h later = (x, is_first x xs, e)
found_by t x xs false e h later =
    let n = counted_not t x xs e in
    found_later t x xs (later (omega (arith, n, h)))

-- a tile that is counted is in some member
pub found : (t : Tile) (xs : List Trapezoid) → 1 ≤ count_in xs t → Found t xs
found t [] h = absurd (omega (arith, h))
found t (x ∷ xs) h = found_by t x xs _ refl h (found t xs)

twice_counted : (t : Tile) (x z : Trapezoid) (xs : List Trapezoid) {P : Type 0} → count_in (x ∷ xs) t ≤ 1
    → trapezoid_has t x ≡ true → Contains xs z → trapezoid_has t z ≡ true → P
twice_counted t x z xs {P} n ex hz ez = let here = counted_first t x xs ex in let later = counted t z xs hz ez in absurd (omega (arith, n, here, later))

-- a tile that is counted at most once is in at most one member
pub one_only : (t : Tile) (xs : List Trapezoid) (y z : Trapezoid) → count_in xs t ≤ 1 → Contains xs y → Contains xs z
    → trapezoid_has t y ≡ true → trapezoid_has t z ≡ true → y ≡ z
one_only t [] y z n hy hz ey ez = none_in_empty y hy
one_only t (x ∷ xs) y z n hy hz ey ez =
    elim (first_or_later x y xs hy) [
      | inl sy ↦ elim (first_or_later x z xs hz) [ inl sz ↦ sym sy ∙ sz | inr sz ↦ twice_counted t x z xs n (rw sy ey) sz ez ]
      | inr sy ↦ elim (first_or_later x z xs hz) [
        | inl sz ↦ twice_counted t x y xs n (rw sz ez) sy ey
        | inr sz ↦
            one_only t xs y z (let more = counted_later t x xs in omega (arith, n, more)) sy sz ey ez
      ]
    ]

none_by : (t : Tile) (xs : List Trapezoid) (n : ℕ) → count_in xs t ≡ n → (Found t xs → ⊥) → n ≡ 0
none_by t xs zero e h = refl
none_by t xs (suc n) e h = absurd (h (found t xs (omega (arith, e))))

-- a tile that is in no member isn't counted
pub none_counted : (t : Tile) (xs : List Trapezoid) → (Found t xs → ⊥) → count_in xs t ≡ 0
none_counted t xs h = none_by t xs (count_in xs t) refl h

once_by : (t : Tile) (x : Trapezoid) (xs : List Trapezoid) (b : Bool) → trapezoid_has t x ≡ b → count_in xs t ≤ 1
    → (trapezoid_has t x ≡ true → Found t xs → ⊥) → count_in (x ∷ xs) t ≤ 1
once_by t x xs true e later none = let n = none_counted t xs (none e) in let here = counted_first t x xs e in omega (arith, n, here)
once_by t x xs false e later none = let here = counted_not t x xs e in omega (arith, later, here)

-- with one member more, whose tiles are in no other
pub once_more : (t : Tile) (x : Trapezoid) (xs : List Trapezoid) → count_in xs t ≤ 1 → (trapezoid_has t x ≡ true → Found t xs → ⊥) → count_in (x ∷ xs) t ≤ 1
once_more t x xs later none = once_by t x xs _ refl later none

-- ---- members of maps and filters

module _ {X Y : Type 0} (f : X → Y) where
  pub mapped : (x : X) (xs : List X) → Contains xs x → Contains (map f xs) (f x)
  mapped x [] h = none_in_empty x h
  mapped x (y ∷ xs) h = elim
      (first_or_later y x xs h) [
        | inl e ↦ subst (λ (u : X). Contains (f y ∷ map f xs) (f u)) e
            (is_first (f y) (map f xs))
        | inr later ↦ among_rest (f y) (f x) (map f xs) (mapped x xs later)
      ]

  -- what a member of a map comes from
  abbrev pub Origin : Y → List X → Type 0
  Origin y xs = (x : X) × Contains xs x × (f x ≡ y)

  later_origin : (y : Y) (x : X) (xs : List X) → Origin y xs → Origin y (x ∷ xs)
  later_origin y x xs h = (h.0, among_rest x h.0 xs h.1, h.2)

  pub origin : (y : Y) (xs : List X) → Contains (map f xs) y → Origin y xs
  origin y [] h = none_in_empty y h
  origin y (x ∷ xs) h = elim (first_or_later (f x) y (map f xs) h) [ inl e ↦ (x, is_first x xs, e) | inr later ↦ later_origin y x xs (origin y xs later) ]

module _ {X : Type 0} (p : X → Bool) where
  cond_contains : (b : Bool) (x z : X) (xs : List X) → Contains xs z → Contains (cond b (x ∷ xs) xs) z
  cond_contains true x z xs h = among_rest x z xs h
  cond_contains false x z xs h = h

  pub passed : (z : X) (xs : List X) → Contains xs z → p z ≡ true → Contains (filter p xs) z
  passed z [] h e = none_in_empty z h
  passed z (x ∷ xs) h e =
      elim (first_or_later x z xs h) [
        | inl s ↦ (let here : p x ≡ true = ap p s ∙ e in subst (λ (u : X). Contains (filter p (x ∷ xs)) u) s (rw here (is_first x (filter p xs))))
        | inr later ↦ cond_contains (p x) x z (filter p xs) (passed z xs later e)
      ]

  still_later : (b : Bool) (x z : X) (xs : List X) → p x ≡ b → Contains (cond b (x ∷ filter p xs) (filter p xs)) z
      → (Contains (filter p xs) z → Contains xs z × (p z ≡ true)) → Contains (x ∷ xs) z × (p z ≡ true)
  still_later true x z xs e h later =
      elim (first_or_later x z (filter p xs) h) [
        | inl s ↦ (subst (λ (u : X). Contains (x ∷ xs) u) s (is_first x xs), ap p (sym s) ∙ e)
        | inr r ↦ (let more = later r in (among_rest x z xs more.0, more.1))
      ]
  still_later false x z xs e h later = let more = later h in (among_rest x z xs more.0, more.1)

  pub passing : (z : X) (xs : List X) → Contains (filter p xs) z → Contains xs z × (p z ≡ true)
  passing z [] h = none_in_empty z h
  passing z (x ∷ xs) h = still_later (p x) x z xs refl h (passing z xs)

-- ---- `Any` and `Contains`

module _ {X : Type 0} (P : X → Type 0) where
  pub some_member : (xs : List X) → Any P xs → (x : X) × Contains xs x × P x
  some_member xs h = (h.1, (h.0, h.2, h.3), h.4)

  pub any_by : (x : X) (xs : List X) → Contains xs x → P x → Any P xs
  any_by x xs h p = (h.0, x, h.1, h.2, p)
