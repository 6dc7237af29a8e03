-- The text of a record: its id, its info byte, its fields in order.
use Rattle.std.proofs.Common.{◌≡◌, ℕ, ℤ, ◌+◌, ◌*◌, ◌/◌, ◌%◌, ◌<◌, ◌≤◌, Bool, true, false, nat_eq, is_some, List, []}
use Rattle.std.proofs.Common.{◌∷◌, ◌++◌, length, drop, get_or, refl, arith, ap, sym, ◌∙◌, append_assoc, length-append}
use Rattle.std.proofs.Common.{FitsSigned, w64}
use Rattle.std.proofs.lemmas.Int.{to_z-of_z}
use mir.Val.{to_z, of_z}
use Rattle.std.proofs.lemmas.List.{drop-drop, length-drop, get_or-drop}
use Rattle.oas_lex.specs.ShotText.{id_for, delta_text}
use Rattle.shot_repeat.specs.Records.{bit, info_of, number_text, place_text, repetition_text, body_text, record_text}
use Rattle.shot_reader.proofs.ForCallers.{opens_by}
use Rattle.shot_repeat.specs.Refusals.{has}
use Rattle.shot_repeat.specs.declared.record.PackRecord.{PackRecord}

-- a body that is put together field by field is that of the record
pub body_spelled : (r : PackRecord) (s0 s1 s2 s3 s4 s5 s6 s7 s8 s9 s10 : List ℕ)
    → s0 ≡ [] → s1 ≡ s0 ++ id_for r.left_delta r.right_delta ∷ [] → s2 ≡ s1 ++ info_of r ∷ []
    → s3 ≡ s2 ++ number_text r.layer → s4 ≡ s3 ++ number_text r.datatype
    → s5 ≡ s4 ++ number_text r.width → s6 ≡ s5 ++ number_text r.height
    → s7 ≡ s6 ++ delta_text r.left_delta → s8 ≡ s7 ++ delta_text r.right_delta
    → s9 ≡ s8 ++ place_text r.x → s10 ≡ s9 ++ place_text r.y
    → s10 ≡ body_text r
unfolding body_text
body_spelled r s0 s1 s2 s3 s4 s5 s6 s7 s8 s9 s10 e0 e1 e2 e3 e4 e5 e6 e7 e8 e9 e10 =
    rw (e10, e9, e8, e7, e6, e5, e4, e3, e2, e1, e0) (simp append_assoc)

-- a record's fields after its id and its info byte, and what follows them
abbrev pub opened : PackRecord → List ℕ → List ℕ
opened r after =
    number_text r.layer ++ (number_text r.datatype
    ++ (number_text r.width
    ++ (number_text r.height
    ++ (delta_text r.left_delta
    ++ (delta_text r.right_delta
    ++ (place_text r.x ++ (place_text r.y ++ (repetition_text r.repetition ++ after))))))))

pub record_parts : (r : PackRecord) → record_text r ≡ body_text r ++ repetition_text r.repetition
unfolding record_text
record_parts r = refl

pub record_opens : (r : PackRecord) (after : List ℕ) → record_text r ++ after ≡ id_for r.left_delta r.right_delta ∷ info_of r ∷ opened r after
unfolding record_text body_text
record_opens r after = simp append_assoc

pub body_some : (r : PackRecord) (text : List ℕ) → text ≡ body_text r → 0 < length text
unfolding body_text
body_some r text e = omega (arith, ap length e)

pub record_some : (r : PackRecord) → 0 < length (record_text r)
record_some r = omega (arith, ap length (record_parts r), length-append (body_text r) (repetition_text r.repetition), body_some r (body_text r) refl)

-- what a number appends that was passed as a word of 64 bits
pub passed : (text : ℤ → List ℕ) (z : ℤ) (before after : List ℕ) → FitsSigned w64 z → after ≡ before ++ text (to_z w64 (of_z w64 z)) → after ≡ before ++ text z
passed text z before after fits e = e ∙ ap (λ v. before ++ text v) (to_z-of_z w64 z fits)

-- ---- the info byte

digit : Bool → ℕ
digit b = bit 1 b

weighed : (w : ℕ) (b : Bool) → bit w b ≡ w * digit b
unfolding digit
weighed w true = omega arith
weighed w false = omega arith

digit_most : (b : Bool) → digit b ≤ 1
unfolding digit
digit_most true = omega arith
digit_most false = omega arith

digit_is : (b : Bool) → nat_eq (digit b) 1 ≡ b
unfolding digit
digit_is true = refl
digit_is false = refl

sum_of : ℕ → ℕ → ℕ → ℕ → ℕ → ℕ → ℕ → ℕ
sum_of a b c d e f g = 64 * a + 32 * b + (16 * c + 8 * d) + 4 * e + (2 * f + g)

info_sum : (a b c d e f g : Bool) → bit 64 a + bit 32 b + (bit 16 c + bit 8 d) + bit 4 e + (bit 2 f + bit 1 g) ≡ sum_of
    (digit a) (digit b) (digit c) (digit d) (digit e) (digit f) (digit g)
unfolding sum_of
info_sum a b c d e f g = omega (arith, weighed 64 a, weighed 32 b, weighed 16 c, weighed 8 d, weighed 4 e, weighed 2 f, weighed 1 g)

abbrev Small : ℕ → ℕ → ℕ → ℕ → ℕ → ℕ → ℕ → Type 0
Small a b c d e f g = (a ≤ 1) × (b ≤ 1) × (c ≤ 1) × (d ≤ 1) × (e ≤ 1) × (f ≤ 1) × (g ≤ 1)

digit_64 : (a b c d e f g : ℕ) → Small a b c d e f g → sum_of a b c d e f g / 64 % 2 ≡ a
unfolding sum_of
digit_64 a b c d e f g h = omega (arith, h.0, h.1, h.2, h.3, h.4, h.5, h.6)

digit_32 : (a b c d e f g : ℕ) → Small a b c d e f g → sum_of a b c d e f g / 32 % 2 ≡ b
unfolding sum_of
digit_32 a b c d e f g h = omega (arith, h.0, h.1, h.2, h.3, h.4, h.5, h.6)

digit_16 : (a b c d e f g : ℕ) → Small a b c d e f g → sum_of a b c d e f g / 16 % 2 ≡ c
unfolding sum_of
digit_16 a b c d e f g h = omega (arith, h.0, h.1, h.2, h.3, h.4, h.5, h.6)

digit_8 : (a b c d e f g : ℕ) → Small a b c d e f g → sum_of a b c d e f g / 8 % 2 ≡ d
unfolding sum_of
digit_8 a b c d e f g h = omega (arith, h.0, h.1, h.2, h.3, h.4, h.5, h.6)

digit_4 : (a b c d e f g : ℕ) → Small a b c d e f g → sum_of a b c d e f g / 4 % 2 ≡ e
unfolding sum_of
digit_4 a b c d e f g h = omega (arith, h.0, h.1, h.2, h.3, h.4, h.5, h.6)

digit_2 : (a b c d e f g : ℕ) → Small a b c d e f g → sum_of a b c d e f g / 2 % 2 ≡ f
unfolding sum_of
digit_2 a b c d e f g h = omega (arith, h.0, h.1, h.2, h.3, h.4, h.5, h.6)

digit_1 : (a b c d e f g : ℕ) → Small a b c d e f g → sum_of a b c d e f g / 1 % 2 ≡ g
unfolding sum_of
digit_1 a b c d e f g h = omega (arith, h.0, h.1, h.2, h.3, h.4, h.5, h.6)

low_by : (a b c d e f g : ℕ) → Small a b c d e f g → sum_of a b c d e f g < 128
unfolding sum_of
low_by a b c d e f g h = omega (arith, h.0, h.1, h.2, h.3, h.4, h.5, h.6)

small : (a b c d e f g : Bool) → Small (digit a) (digit b) (digit c) (digit d) (digit e) (digit f) (digit g)
small a b c d e f g = (digit_most a, digit_most b, digit_most c, digit_most d, digit_most e, digit_most f, digit_most g)

-- what the info byte of a record says
pub record SaysWhat (info : ℕ) (r : PackRecord) : Type 0 where
  pub low : info < 128
  pub width : has info 64 ≡ is_some r.width
  pub height : has info 32 ≡ is_some r.height
  pub x : has info 16 ≡ is_some r.x
  pub y : has info 8 ≡ is_some r.y
  pub repetition : has info 4 ≡ is_some r.repetition
  pub datatype : has info 2 ≡ is_some r.datatype
  pub layer : has info 1 ≡ is_some r.layer

by_digit : (n m : ℕ) (b : Bool) → n ≡ m → m ≡ digit b → nat_eq n 1 ≡ b
by_digit n m b e f = ap (λ (k : ℕ). nat_eq k 1) (e ∙ f) ∙ digit_is b

pub info_says : (r : PackRecord) → SaysWhat (info_of r) r
info_says r =
    let a = is_some r.width in
    let b = is_some r.height in
    let c = is_some r.x in
    let d = is_some r.y in
    let e = is_some r.repetition in
    let f = is_some r.datatype in
    let g = is_some r.layer in
    let s = info_sum a b c d e f g in
    let h = small a b c d e f g in
    record {
      low = omega (arith, s, low_by (digit a) (digit b) (digit c) (digit d) (digit e) (digit f) (digit g) h);
      width = by_digit _ _ a (ap (λ (n : ℕ). n / 64 % 2) s) (digit_64 (digit a) (digit b) (digit c) (digit d) (digit e) (digit f) (digit g) h);
      height = by_digit _ _ b (ap (λ (n : ℕ). n / 32 % 2) s) (digit_32 (digit a) (digit b) (digit c) (digit d) (digit e) (digit f) (digit g) h);
      x = by_digit _ _ c (ap (λ (n : ℕ). n / 16 % 2) s) (digit_16 (digit a) (digit b) (digit c) (digit d) (digit e) (digit f) (digit g) h);
      y = by_digit _ _ d (ap (λ (n : ℕ). n / 8 % 2) s) (digit_8 (digit a) (digit b) (digit c) (digit d) (digit e) (digit f) (digit g) h);
      repetition = by_digit _ _ e (ap (λ (n : ℕ). n / 4 % 2) s) (digit_4 (digit a) (digit b) (digit c) (digit d) (digit e) (digit f) (digit g) h);
      datatype = by_digit _ _ f (ap (λ (n : ℕ). n / 2 % 2) s) (digit_2 (digit a) (digit b) (digit c) (digit d) (digit e) (digit f) (digit g) h);
      layer = by_digit _ _ g (ap (λ (n : ℕ). n / 1 % 2) s) (digit_1 (digit a) (digit b) (digit c) (digit d) (digit e) (digit f) (digit g) h);
    }

-- ---- the bytes at a place

-- the byte after the first
pub second_is : (bytes rest : List ℕ) (at x y : ℕ) → drop at bytes ≡ x ∷ y ∷ rest → get_or bytes (at + 1) 0 ≡ y
second_is bytes rest at x y e = sym (get_or-drop at bytes 1 0) ∙ ap (λ (l : List ℕ). get_or l 1 0) e

-- what follows the first two
pub after_two : (bytes rest : List ℕ) (at start x y : ℕ) → drop at bytes ≡ x ∷ y ∷ rest → start ≡ at + 2 → drop start bytes ≡ rest
after_two bytes rest at start x y e s = ap (λ (n : ℕ). drop n bytes) s ∙ (sym (drop-drop 2 at bytes) ∙ ap (drop 2) e)

pub two_there : (bytes rest : List ℕ) (at x y : ℕ) → drop at bytes ≡ x ∷ y ∷ rest → at + 2 ≤ length bytes
two_there bytes rest at x y e = omega (arith, ap length e, length-drop at bytes)

-- a record stands where its parts do, one after another
pub spelled_record : (q : PackRecord) (bytes : List ℕ) (at start a b w h l r x y last : ℕ)
    → get_or bytes at 0 ≡ id_for q.left_delta q.right_delta → get_or bytes (at + 1) 0 ≡ info_of q → start ≡ at + 2
    → start ≤ length bytes
    → drop start bytes ≡ number_text q.layer ++ drop a bytes → drop a bytes ≡ number_text q.datatype ++ drop b bytes
    → drop b bytes ≡ number_text q.width ++ drop w bytes → drop w bytes ≡ number_text q.height ++ drop h bytes
    → drop h bytes ≡ delta_text q.left_delta ++ drop l bytes → drop l bytes ≡ delta_text q.right_delta ++ drop r bytes
    → drop r bytes ≡ place_text q.x ++ drop x bytes → drop x bytes ≡ place_text q.y ++ drop y bytes
    → drop y bytes ≡ repetition_text q.repetition ++ drop last bytes
    → drop at bytes ≡ record_text q ++ drop last bytes
spelled_record q bytes at start a b w h l r x y last id info s within ea eb ew eh el er ex ey ep =
    opens_by bytes at start (id_for q.left_delta q.right_delta) (info_of q) id s info within
    ∙ (ap (λ (t : List ℕ). id_for q.left_delta q.right_delta ∷ info_of q ∷ t)
    (ea ∙ ap (λ (t : List ℕ). number_text q.layer ++ t)
    (eb ∙ ap (λ (t : List ℕ). number_text q.datatype ++ t)
    (ew ∙ ap (λ (t : List ℕ). number_text q.width ++ t)
    (eh ∙ ap (λ (t : List ℕ). number_text q.height ++ t)
    (el ∙ ap (λ (t : List ℕ). delta_text q.left_delta ++ t)
    (er ∙ ap (λ (t : List ℕ). delta_text q.right_delta ++ t)
    (ex ∙ ap (λ (t : List ℕ). place_text q.x ++ t)
    (ey ∙ ap (λ (t : List ℕ). place_text q.y ++ t) ep))))))))
    ∙ sym (record_opens q (drop last bytes)))
