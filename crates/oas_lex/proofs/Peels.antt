-- What two texts that begin with fields have in common: the fields, and what follows them.
use Rattle.std.proofs.Common.{◌≡◌, ℕ, ◌^◌, ◌<◌, ℤ, pos, Bool, true, false, cond, unsigned_abs, List, [], ◌∷◌, ◌++◌}
use Rattle.std.proofs.Common.{refl, arith, ap, sym, ◌∙◌, append_assoc, codes, replicate}
use Rattle.std.specs.Ordering.{int_eq}
use Rattle.std.proofs.lemmas.List.{append_cancel_left}
use Rattle.std.proofs.lemmas.Bool.Decides.{Decides-int_eq}
use Rattle.oas_lex.specs.Spelling.{unsigned_text, signed_text}
use Rattle.oas_lex.specs.Numbers.{value_of, signed_value, IsUnsigned, IsSigned}
use Rattle.oas_lex.specs.ShotText.{magic, cell, head, id_for, delta_text}
use Rattle.oas_lex.proofs.Groups.{unsigned_spells}
use Rattle.oas_lex.proofs.Codes.{signed_spells}
use Rattle.oas_lex.proofs.Wholes.{none_begins}

pub unsigned_peel : (n m : ℕ) (x y : List ℕ) → n < 2 ^ 63 → m < 2 ^ 63 → unsigned_text n ++ x ≡ unsigned_text m ++ y → (n ≡ m) × (x ≡ y)
unsigned_peel n m x y h g e =
    let first : IsUnsigned (unsigned_text n) n = unsigned_spells n h in
    let second : IsUnsigned (unsigned_text m) m = unsigned_spells m g in
    let both : (unsigned_text n ≡ unsigned_text m) × (x ≡ y) = none_begins (unsigned_text n) (unsigned_text m) x y first.whole second.whole e in
    (sym first.value ∙ (ap value_of both.0 ∙ second.value), both.1)

pub signed_peel : (n m : ℤ) (x y : List ℕ) → unsigned_abs n < 2 ^ 62 → unsigned_abs m < 2 ^ 62 → signed_text n ++ x ≡ signed_text m ++ y → (n ≡ m) × (x ≡ y)
signed_peel n m x y h g e =
    let first : IsSigned (signed_text n) n = signed_spells n h in
    let second : IsSigned (signed_text m) m = signed_spells m g in
    let both : (signed_text n ≡ signed_text m) × (x ≡ y) = none_begins (signed_text n) (signed_text m) x y first.whole second.whole e in
    (sym first.value ∙ (ap (λ t. signed_value (value_of t)) both.0 ∙ second.value), both.1)

delta_peel_by : (p q : Bool) (n m : ℤ) (x y : List ℕ) → p ≡ q → (p ≡ true → n ≡ pos 0) → (q ≡ true → m ≡ pos 0)
    → unsigned_abs n < 2 ^ 62 → unsigned_abs m < 2 ^ 62
    → cond p [] (signed_text n) ++ x ≡ cond q [] (signed_text m) ++ y → (n ≡ m) × (x ≡ y)
delta_peel_by true true n m x y s a b h g e = (a refl ∙ sym (b refl), e)
delta_peel_by true false n m x y s a b h g e = absurd (cc)
delta_peel_by false true n m x y s a b h g e = absurd (cc)
delta_peel_by false false n m x y s a b h g e = signed_peel n m x y h g e

pub delta_peel : (n m : ℤ) (x y : List ℕ) → int_eq n (pos 0) ≡ int_eq m (pos 0) → unsigned_abs n < 2 ^ 62 → unsigned_abs m < 2 ^ 62
    → delta_text n ++ x ≡ delta_text m ++ y → (n ≡ m) × (x ≡ y)
delta_peel n m x y s h g e =
    delta_peel_by (int_eq n (pos 0)) (int_eq m (pos 0)) n m x y s (Decides-int_eq n (pos 0)).0 (Decides-int_eq m (pos 0)).0 h g e

-- the id, by whether the deltas are 0
abbrev pub id_of : Bool → Bool → ℕ
id_of p q = cond p (cond q 20 25) (cond q 24 23)

-- an id says which deltas are 0
id_by : (p q r s : Bool) → id_of p q ≡ id_of r s → (p ≡ r) × (q ≡ s)
id_by true true true true e = (refl, refl)
id_by true true true false e = absurd (omega arith)
id_by true true false true e = absurd (omega arith)
id_by true true false false e = absurd (omega arith)
id_by true false true true e = absurd (omega arith)
id_by true false true false e = (refl, refl)
id_by true false false true e = absurd (omega arith)
id_by true false false false e = absurd (omega arith)
id_by false true true true e = absurd (omega arith)
id_by false true true false e = absurd (omega arith)
id_by false true false true e = (refl, refl)
id_by false true false false e = absurd (omega arith)
id_by false false true true e = absurd (omega arith)
id_by false false true false e = absurd (omega arith)
id_by false false false true e = absurd (omega arith)
id_by false false false false e = (refl, refl)

pub id_tests : (a b c d : ℤ) → id_of (int_eq a (pos 0)) (int_eq b (pos 0)) ≡ id_of (int_eq c (pos 0))
    (int_eq d (pos 0)) → (int_eq a (pos 0) ≡ int_eq c (pos 0)) × (int_eq b (pos 0) ≡ int_eq d (pos 0))
id_tests a b c d e = id_by (int_eq a (pos 0)) (int_eq b (pos 0)) (int_eq c (pos 0)) (int_eq d (pos 0)) e

not_end_by : (p q : Bool) → id_of p q ≡ 2 → ⊥
not_end_by true true e = omega arith
not_end_by true false e = omega arith
not_end_by false true e = omega arith
not_end_by false false e = omega arith

-- no record has the id of END
pub not_end : (a b : ℤ) → id_for a b ≡ 2 → ⊥
not_end a b e = not_end_by (int_eq a (pos 0)) (int_eq b (pos 0)) e

-- the head up to its unit, and after it
abbrev pub before_unit : List ℕ
before_unit = magic ++ 1 ∷ 3 ∷ codes "1.0" ++ 0 ∷ []

abbrev pub after_unit : List ℕ
after_unit = 0 ∷ replicate 12 0 ++ cell

pub head_is : (unit : ℕ) (x : List ℕ) → head unit ++ x ≡ before_unit ++ (unsigned_text unit ++ (after_unit ++ x))
unfolding head
head_is unit x = simp append_assoc

pub head_peel : (u v : ℕ) (x y : List ℕ) → u < 2 ^ 63 → v < 2 ^ 63 → head u ++ x ≡ head v ++ y → (u ≡ v) × (x ≡ y)
head_peel u v x y h g e =
    let whole : before_unit ++ (unsigned_text u ++ (after_unit ++ x)) ≡ before_unit
    ++ (unsigned_text v ++ (after_unit ++ y)) = sym (head_is u x) ∙ (e ∙ head_is v y) in
    let rest : unsigned_text u ++ (after_unit ++ x) ≡ unsigned_text v ++ (after_unit ++ y) =
    append_cancel_left before_unit (unsigned_text u ++ (after_unit ++ x))
    (unsigned_text v ++ (after_unit ++ y)) whole in
    let both : (u ≡ v) × (after_unit ++ x ≡ after_unit ++ y) = unsigned_peel u v (after_unit ++ x) (after_unit ++ y) h g rest in
    (both.0, append_cancel_left after_unit x y both.1)
