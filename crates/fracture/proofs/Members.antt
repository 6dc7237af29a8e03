-- Members of lists of trapezoids.
use Rattle.std.proofs.Common.{◌≡◌, List, [], ◌∷◌, arith}
use Rattle.std.proofs.lemmas.List.Elements.{Contains-push_cases, Contains-append_cases, Contains-append_left, Contains-append_right, Contains-push}
use Rattle.std.specs.List.{Contains, flat_map}
use mathlib.Core.Logic.{◌⊎◌, inl, inr}
use Rattle.half_grid.specs.Trapezoids.{Trapezoid}

pub none_in_empty : (y : Trapezoid) → Contains [] y → ⊥
none_in_empty y h = omega (arith, h.1)

only_one : (x y : Trapezoid) → Contains (x ∷ []) y → x ≡ y
only_one x y h = elim (Contains-push_cases [] x y h) [ inl e ↦ absurd (none_in_empty y e) | inr e ↦ e ]

pub first_or_later : (x y : Trapezoid) (xs : List Trapezoid) → Contains (x ∷ xs) y → (x ≡ y) ⊎ Contains xs y
first_or_later x y xs h = elim (Contains-append_cases (x ∷ []) xs y h) [ inl e ↦ inl (only_one x y e) | inr e ↦ inr e ]

pub is_first : (x : Trapezoid) (xs : List Trapezoid) → Contains (x ∷ xs) x
is_first x xs = Contains-append_left (x ∷ []) xs x (Contains-push [] x)

pub is_later : (x y : Trapezoid) (xs : List Trapezoid) → Contains xs y → Contains (x ∷ xs) y
is_later x y xs h = Contains-append_right (x ∷ []) xs y h

-- a member of lists that stand one after the other is one of some of them
abbrev pub IsOfSome : (Trapezoid → List Trapezoid) → List Trapezoid → Trapezoid → Type 0
IsOfSome f zs y = (z : Trapezoid) × Contains zs z × Contains (f z) y

of_later : (f : Trapezoid → List Trapezoid) (z : Trapezoid) (zs : List Trapezoid) (y : Trapezoid) → IsOfSome f zs y → IsOfSome f (z ∷ zs) y
of_later f z zs y h = (h.0, is_later z h.0 zs h.1, h.2)

pub of_some : (f : Trapezoid → List Trapezoid) (zs : List Trapezoid) (y : Trapezoid) → Contains (flat_map f zs) y → IsOfSome f zs y
of_some f [] y h = absurd (none_in_empty y h)
of_some f (z ∷ zs) y h = elim (Contains-append_cases (f z) (flat_map f zs) y h) [ inl e ↦ (z, is_first z zs, e) | inr e ↦ of_later f z zs y (of_some f zs y e) ]
