-- What stands at a place of a list.
use Rattle.std.proofs.Common.{◌≡◌, ◌⊎◌, ℕ, zero, suc, ◌+◌, ◌<◌, ◌≤◌, List, [], ◌∷◌, ◌++◌, Some, All, map, length, drop}
use Rattle.std.proofs.Common.{set, get_or, slice_get, refl, sym, ap, subst, ◌∙◌, inl, inr, arith, zero-add}
use Rattle.std.proofs.lemmas.Option.{none-some, same_Some, slice_get_within, get_or_from_slice_get, slice_get-get_or}

pub map_slot : {A B : Type 0} (f : A → B) (xs : List A) (k : ℕ) (y : B) → slice_get (map f xs) k ≡ Some y → (x : A) × (slice_get xs k ≡ Some x) × (f x ≡ y)
map_slot f [] k y here = absurd (none-some y here)
map_slot f (x ∷ xs) zero y here = (x, refl, same_Some (f x) y here)
map_slot f (x ∷ xs) (suc k) y here = map_slot f xs k y here

pub slot_map : {A B : Type 0} (f : A → B) (xs : List A) (k : ℕ) (x : A) → slice_get xs k ≡ Some x → slice_get (map f xs) k ≡ Some (f x)
slot_map f [] k x here = absurd (none-some x here)
slot_map f (y ∷ ys) zero x here = ap (λ z. Some (f z)) (same_Some y x here)
slot_map f (y ∷ ys) (suc k) x here = slot_map f ys k x here

pub slot_set_same : {A : Type 0} (xs : List A) (i : ℕ) (y : A) → i < length xs → slice_get (set xs i y) i ≡ Some y
slot_set_same [] i y inside = absurd (omega arith)
slot_set_same (x ∷ xs) zero y inside = refl
slot_set_same (x ∷ xs) (suc i) y inside = slot_set_same xs i y (omega arith)

pub slot_set_other : {A : Type 0} (xs : List A) (i : ℕ) (y : A) (j : ℕ) → (j ≡ i → ⊥) → slice_get (set xs i y) j ≡ slice_get xs j
slot_set_other [] i y j other = refl
slot_set_other (x ∷ xs) zero y zero other = absurd (other refl)
slot_set_other (x ∷ xs) zero y (suc j) other = refl
slot_set_other (x ∷ xs) (suc i) y zero other = refl
slot_set_other (x ∷ xs) (suc i) y (suc j) other = slot_set_other xs i y j (λ e. other (ap suc e))

-- a place is that of the element that is put last, or stood before
pub slot_push : {A : Type 0} (xs : List A) (y : A) (i : ℕ) (z : A) → slice_get (xs ++ y ∷ []) i ≡ Some z
    → (slice_get xs i ≡ Some z) ⊎ ((i ≡ length xs) × (y ≡ z))
slot_push [] y zero z here = inr (refl, same_Some y z here)
slot_push [] y (suc i) z here = absurd (none-some z here)
slot_push (x ∷ xs) y zero z here = inl here
slot_push (x ∷ xs) y (suc i) z here = elim (slot_push xs y i z here) [ inl before ↦ inl before | inr last ↦ inr (ap suc last.0, last.1) ]

pub slot_before : {A : Type 0} (xs ys : List A) (i : ℕ) (z : A) → slice_get xs i ≡ Some z → slice_get (xs ++ ys) i ≡ Some z
slot_before [] ys i z here = absurd (none-some z here)
slot_before (x ∷ xs) ys zero z here = here
slot_before (x ∷ xs) ys (suc i) z here = slot_before xs ys i z here

pub slot_last : {A : Type 0} (xs : List A) (y : A) → slice_get (xs ++ y ∷ []) (length xs) ≡ Some y
slot_last [] y = refl
slot_last (x ∷ xs) y = slot_last xs y

pub slot_past : {A : Type 0} (xs : List A) (i : ℕ) (z : A) → length xs ≤ i → slice_get xs i ≡ Some z → ⊥
slot_past xs i z past here = let inside = slice_get_within xs i z here in omega arith

pub slot_drop : {A : Type 0} (n : ℕ) (xs : List A) (i : ℕ) → slice_get (drop n xs) i ≡ slice_get xs (n + i)
slot_drop zero xs i = ap (slice_get xs) (sym (zero-add i))
slot_drop (suc n) [] i = refl
slot_drop (suc n) (x ∷ xs) i = let e : suc (n + i) ≡ suc n + i = omega arith in slot_drop n xs i ∙ ap (slice_get (x ∷ xs)) e

-- the element that an index gives
pub slot_read : {A : Type 0} (xs : List A) (i : ℕ) (x : A) → i < length xs → x ≡ get_or xs i x → slice_get xs i ≡ Some x
slot_read xs i x inside is = slice_get-get_or xs i x inside ∙ ap Some (sym is)

pub read_slot : {A : Type 0} (xs : List A) (i : ℕ) (x d : A) → slice_get xs i ≡ Some x → get_or xs i d ≡ x
read_slot xs i x d here = get_or_from_slice_get xs i x d here

pub one_slot : {A : Type 0} (xs : List A) (i : ℕ) (x y : A) → slice_get xs i ≡ Some x → slice_get xs i ≡ Some y → x ≡ y
one_slot xs i x y a b = same_Some x y (sym a ∙ b)

pub All-from_slots : {A : Type 0} (xs : List A) (P : A → Type 0) → ((k : ℕ) (x : A) → slice_get xs k ≡ Some x → P x) → All P xs
All-from_slots xs P holds k d inside = holds k (get_or xs k d) (slice_get-get_or xs k d inside)

pub All-slot : {A : Type 0} (xs : List A) (P : A → Type 0) → All P xs → (k : ℕ) (x : A) → slice_get xs k ≡ Some x → P x
All-slot xs P all k x here = subst P (get_or_from_slice_get xs k x x here) (all k x (slice_get_within xs k x here))
