-- Tables that are filled in cell by cell along an order.
use Rattle.std.proofs.Common.{◌≡◌, ◌⊎◌, ℕ, zero, suc, ◌+◌, ◌<◌, List, [], ◌∷◌, ◌++◌, Some, length, map, set, get_or, slice_get}
use Rattle.std.proofs.Common.{refl, sym, ap, subst, ◌∙◌, inl, inr, arith}
use Rattle.std.proofs.lemmas.List.{get_or-set_same, get_or-set_other, map-append}
use Rattle.std.proofs.lemmas.Option.{slice_get_within}
use Rattle.cell_tree.specs.Orders.{IsAmong, IsBefore}
use Rattle.cell_tree.proofs.SlotLemmas.{one_slot}
use Rattle.cell_tree.proofs.SearchLemmas.{apart}

-- what is known of the cells before place i
abbrev pub Known : {X : Type 0} → (ℕ → X → Type 0) → X → List ℕ → List X → ℕ → Type 0
Known F d order table i = (j n : ℕ) → j < i → slice_get order j ≡ Some n → F n (get_or table n d)

module _ {X : Type 0} (F : ℕ → X → Type 0) (d : X) (order : List ℕ) (table : List X) (i c : ℕ) (x : X) where
  pub known_more : slice_get order i ≡ Some c → c < length table → Known F d order table i → F c x → Known F d order (set table c x) (i + 1)
  known_more here inside known new j n before at = elim (apart n c) [
    | inl e ↦ subst (λ m. F m (get_or (set table c x) m d)) (sym e) (subst (F c) (sym (get_or-set_same table c x d inside)) new)
    | inr differs ↦ subst (F n) (sym (get_or-set_other table c n x d differs)) (elim (apart j i) [
      | inl e ↦ absurd (differs (one_slot order j n c at (subst (λ k. slice_get order k ≡ Some c) (sym e) here)))
      | inr other ↦ known j n (omega arith) at
    ])
  ]

-- what is known in the end
pub known_all : {X : Type 0} (F : ℕ → X → Type 0) (d : X) (order : List ℕ) (table : List X)
    → Known F d order table (length order) → (n : ℕ) → IsAmong order n → F n (get_or table n d)
known_all F d order table known n among = known among.0 n (slice_get_within order among.0 n among.1) among.1

-- what is known of a cell that stands before
pub known_before : {X : Type 0} (F : ℕ → X → Type 0) (d : X) (order : List ℕ) (table : List X) (i m : ℕ)
    → Known F d order table i → IsBefore order i m → F m (get_or table m d)
known_before F d order table i m known before = known before.0 m before.1 before.2

-- ---- tables of which only the cells of an order have more than nothing

pub nothing_in_none : {A X : Type 0} (view : A → List X) (table : List A) → table ≡ [] → (n : ℕ) → get_or (map view table) n [] ≡ []
nothing_in_none view table e n = subst (λ l. get_or (map view l) n [] ≡ []) (sym e) refl

nothing_more : {X : Type 0} (table : List (List X)) → ((n : ℕ) → get_or table n [] ≡ []) → (n : ℕ) → get_or (table ++ [] ∷ []) n [] ≡ []
nothing_more [] none zero = refl
nothing_more [] none (suc n) = refl
nothing_more (x ∷ table) none zero = none zero
nothing_more (x ∷ table) none (suc n) = nothing_more table (λ k. none (suc k)) n

pub nothing_pushed : {A X : Type 0} (view : A → List X) (table new : List A) (v : A) → new ≡ table ++ v ∷ [] → view v ≡ []
    → ((n : ℕ) → get_or (map view table) n [] ≡ []) → (n : ℕ) → get_or (map view new) n [] ≡ []
nothing_pushed view table new v e none so n =
    ap (λ l. get_or l n []) (ap (map view) e ∙ map-append view table (v ∷ []) ∙ ap (λ x. map view table ++ x ∷ []) none)
    ∙ nothing_more (map view table) so n

pub only_more : {X : Type 0} (order : List ℕ) (table : List (List X)) (i c : ℕ) (x : List X) → slice_get order i ≡ Some c
    → ((n : ℕ) → (get_or table n [] ≡ []) ⊎ IsAmong order n) → (n : ℕ) → (get_or (set table c x) n [] ≡ []) ⊎ IsAmong order n
only_more order table i c x here only n = elim (apart n c) [
  | inl e ↦ inr (i, subst (λ m. slice_get order i ≡ Some m) (sym e) here)
  | inr differs ↦ elim (only n) [
    | inl none ↦ inl (get_or-set_other table c n x [] differs ∙ none)
    | inr among ↦ inr among
  ]
]
