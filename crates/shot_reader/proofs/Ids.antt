-- The id of a record says which deltas it has.
use Rattle.std.proofs.Common.{◌≡◌, ◌≢◌, ◌+◌, ◌↔◌, ℕ, ℤ, pos, Bool, true, false, cond, nat_eq, ◌||◌, IsTrue, List, ◌∷◌, drop, get_or, refl, arith, ap, sym, ◌∙◌}
use Rattle.std.specs.Ordering.{int_eq}
use Rattle.std.proofs.lemmas.List.{get_or-drop}
use Rattle.std.proofs.lemmas.Bool.Decides.{Decides-int_eq}
use Rattle.oas_lex.specs.ShotText.{id_for}

plus_none : (n : ℕ) → n ≡ n + 0
plus_none n = omega arith

pub byte_is : (bytes rest : List ℕ) (at x : ℕ) → drop at bytes ≡ x ∷ rest → get_or bytes at 0 ≡ x
byte_is bytes rest at x e = ap (λ (n : ℕ). get_or bytes n 0) (plus_none at) ∙ (sym (get_or-drop at bytes 0 0) ∙ ap (λ (l : List ℕ). get_or l 0 0) e)

differ : false ≡ true → ⊥
differ e = absurd (cc)

left_by : (p q : Bool) (z : ℤ) → (p ≡ true → z ≡ pos 0) → (z ≡ pos 0 → p ≡ true)
    → IsTrue (nat_eq (cond p (cond q 20 25) (cond q 24 23)) 23 || nat_eq (cond p (cond q 20 25) (cond q 24 23)) 24)
    ↔ (z ≢ pos 0)
left_by true true z h g = (λ e. absurd (cc), λ n. absurd (n (h refl)))
left_by true false z h g = (λ e. absurd (cc), λ n. absurd (n (h refl)))
left_by false true z h g = (λ e n. absurd (differ (g n)), λ n. refl)
left_by false false z h g = (λ e n. absurd (differ (g n)), λ n. refl)

right_by : (p q : Bool) (z : ℤ) → (q ≡ true → z ≡ pos 0) → (z ≡ pos 0 → q ≡ true)
    → IsTrue (nat_eq (cond p (cond q 20 25) (cond q 24 23)) 23 || nat_eq (cond p (cond q 20 25) (cond q 24 23)) 25)
    ↔ (z ≢ pos 0)
right_by true true z h g = (λ e. absurd (cc), λ n. absurd (n (h refl)))
right_by true false z h g = (λ e n. absurd (differ (g n)), λ n. refl)
right_by false true z h g = (λ e. absurd (cc), λ n. absurd (n (h refl)))
right_by false false z h g = (λ e n. absurd (differ (g n)), λ n. refl)

pub left_there : (left right : ℤ) (id : ℕ) (b : Bool) → id ≡ id_for left right → b ≡ (nat_eq id 23 || nat_eq id 24) → IsTrue b ↔ (left ≢ pos 0)
left_there left right id b e f = rw (f, e)
    (left_by (int_eq left (pos 0)) (int_eq right (pos 0)) left (Decides-int_eq left (pos 0)).0
    (Decides-int_eq left (pos 0)).1)

pub right_there : (left right : ℤ) (id : ℕ) (b : Bool) → id ≡ id_for left right → b ≡ (nat_eq id 23 || nat_eq id 25) → IsTrue b ↔ (right ≢ pos 0)
right_there left right id b e f = rw (f, e)
    (right_by (int_eq left (pos 0)) (int_eq right (pos 0)) right (Decides-int_eq right (pos 0)).0
    (Decides-int_eq right (pos 0)).1)

pub first_byte : (bytes : List ℕ) (at : ℕ) → get_or (drop at bytes) 0 0 ≡ get_or bytes at 0
first_byte bytes at = get_or-drop at bytes 0 0 ∙ ap (λ (n : ℕ). get_or bytes n 0) (sym (plus_none at))
