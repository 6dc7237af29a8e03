-- What stands at a place of a list.
use Rattle.std.proofs.Common.{◌≡◌, ◌⊎◌, inl, inr, ℕ, zero, suc, ◌<◌, List, [], ◌∷◌, Option, Some, None, length, set}
use Rattle.std.proofs.Common.{get_or, slice_get, replicate, refl, sym, ap, ◌∙◌, arith}
use Rattle.std.proofs.lemmas.Option.{none-some, same_Some}

-- after one place was set
pub set_cases : {A : Type 0} (xs : List A) (i : ℕ) (y : A) (j : ℕ) → i < length xs
    → ((j ≡ i) × (slice_get (set xs i y) j ≡ Some y)) ⊎ ((j ≡ i → ⊥) × (slice_get (set xs i y) j ≡ slice_get xs j))
set_cases [] i y j inside = absurd (omega arith)
set_cases (x ∷ xs) zero y zero inside = inl (refl, refl)
set_cases (x ∷ xs) zero y (suc j) inside = inr (λ e. omega (arith, e), refl)
set_cases (x ∷ xs) (suc i) y zero inside = inr (λ e. omega (arith, e), refl)
set_cases (x ∷ xs) (suc i) y (suc j) inside = elim
    (set_cases xs i y j (omega arith)) [
      | inl h ↦ inl (ap suc h.0, h.1)
      | inr h ↦ inr
          (λ e. h.0 (omega (arith, e)), h.1)
    ]

pub set_here : {A : Type 0} (xs : List A) (i : ℕ) (y : A) → i < length xs → slice_get (set xs i y) i ≡ Some y
set_here [] i y inside = absurd (omega arith)
set_here (x ∷ xs) zero y inside = refl
set_here (x ∷ xs) (suc i) y inside = set_here xs i y (omega arith)

pub set_length : {A : Type 0} (xs : List A) (i : ℕ) (y : A) → length (set xs i y) ≡ length xs
set_length [] i y = refl
set_length (x ∷ xs) zero y = refl
set_length (x ∷ xs) (suc i) y = ap suc (set_length xs i y)

pub all_alike : {A : Type 0} (n : ℕ) (x : A) (k : ℕ) (y : A) → slice_get (replicate n x) k ≡ Some y → y ≡ x
all_alike zero x k y here = absurd (none-some y here)
all_alike (suc n) x zero y here = sym (same_Some x y here)
all_alike (suc n) x (suc k) y here = all_alike n x k y here

pub alike_length : {A : Type 0} (n : ℕ) (x : A) → length (replicate n x) ≡ n
alike_length zero x = refl
alike_length (suc n) x = ap suc (alike_length n x)

pub one_slot : {A : Type 0} (xs : List A) (i : ℕ) (x y : A) → slice_get xs i ≡ Some x → slice_get xs i ≡ Some y → x ≡ y
one_slot xs i x y a b = same_Some x y (sym a ∙ b)

pub filled : {A : Type 0} (xs : List (Option A)) (n : ℕ) (x : A) → get_or xs n None ≡ Some x → slice_get xs n ≡ Some (Some x)
filled [] n x e = absurd (none-some x e)
filled (y ∷ ys) zero x e = ap Some e
filled (y ∷ ys) (suc n) x e = filled ys n x e

pub get_cases : {A : Type 0} (xs : List A) (i : ℕ) (y d : A) (j : ℕ) → i < length xs
    → ((j ≡ i) × (get_or (set xs i y) j d ≡ y)) ⊎ ((j ≡ i → ⊥) × (get_or (set xs i y) j d ≡ get_or xs j d))
get_cases [] i y d j inside = absurd (omega arith)
get_cases (x ∷ xs) zero y d zero inside = inl (refl, refl)
get_cases (x ∷ xs) zero y d (suc j) inside = inr (λ e. omega (arith, e), refl)
get_cases (x ∷ xs) (suc i) y d zero inside = inr (λ e. omega (arith, e), refl)
get_cases (x ∷ xs) (suc i) y d (suc j) inside = elim
    (get_cases xs i y d j (omega arith)) [
      | inl h ↦ inl (ap suc h.0, h.1)
      | inr h ↦ inr
          (λ e. h.0 (omega (arith, e)), h.1)
    ]

pub get_alike : {A : Type 0} (n : ℕ) (x : A) (k : ℕ) → get_or (replicate n x) k x ≡ x
get_alike zero x k = refl
get_alike (suc n) x zero = refl
get_alike (suc n) x (suc k) = get_alike n x k
