-- The bytes of a head, and what bytes have in common with heads.
use Rattle.std.proofs.Common.{◌≡◌, ℕ, ◌+◌, ◌/◌, ◌%◌, ◌<◌, ◌≤◌, List, [], ◌∷◌, ◌++◌, length, take, drop, get_or, arith, ap, sym, subst, ◌∙◌, inl, inr}
use Rattle.std.proofs.lemmas.Bool.{cases_lt}
use Rattle.std.proofs.lemmas.List.{append-nil, take-append-drop, length-append, length-take-le, get_or-take, get_or_append_left, get_or-append-add, ext_get_or}
use Rattle.oas_lex.specs.ShotText.{IsUnit, head}
use Rattle.oas_lex.specs.Spelling.{unsigned_text}
use Rattle.oas_lex.proofs.ForCallers.{groups_last, groups_next, before_unit, after_unit, head_is}
use Rattle.shot_reader.specs.Alike.{BeginAlike}
use Rattle.shot_reader.specs.Refusals.{BeginsHead}

-- ---- the bytes of a unit

unit_one : (v : ℕ) → v < 128 → unsigned_text v ≡ v ∷ []
unfolding unsigned_text
unit_one v h = groups_last 9 v h

unit_two : (v : ℕ) → 128 ≤ v → v < 16384 → unsigned_text v ≡ (v % 128 + 128) ∷ (v / 128) ∷ []
unfolding unsigned_text
unit_two v h g = groups_next 8 v h ∙ ap (λ (t : List ℕ). (v % 128 + 128) ∷ t) (groups_last 8 (v / 128) (omega arith))

unit_three : (v : ℕ) → 16384 ≤ v → v < 2097152 → unsigned_text v ≡ (v % 128 + 128) ∷ (v / 128 % 128 + 128) ∷ (v / 128 / 128) ∷ []
unfolding unsigned_text
unit_three v h g =
    groups_next 8 v (omega arith)
    ∙ ap (λ (t : List ℕ). (v % 128 + 128) ∷ t)
    (groups_next 7 (v / 128) (omega arith) ∙ ap (λ (t : List ℕ). (v / 128 % 128 + 128) ∷ t)
    (groups_last 7 (v / 128 / 128) (omega arith)))

head_opens : (v : ℕ) → head v ≡ before_unit ++ (unsigned_text v ++ after_unit)
head_opens v = sym (append-nil (head v)) ∙ (head_is v [] ∙ ap (λ (t : List ℕ). before_unit ++ (unsigned_text v ++ t)) (append-nil after_unit))

head_at : (v k : ℕ) → get_or (head v) (19 + k) 0 ≡ get_or (unsigned_text v ++ after_unit) k 0
head_at v k = ap (λ (t : List ℕ). get_or t (19 + k) 0) (head_opens v) ∙ get_or-append-add before_unit (unsigned_text v ++ after_unit) k 0

-- the bytes of a head where its unit stands
pub record Digits (v : ℕ) : Type 0 where
  pub one : v < 128 → get_or (head v) 19 0 ≡ v
  pub more : 128 ≤ v → get_or (head v) 19 0 ≡ v % 128 + 128
  pub two : 128 ≤ v → v < 16384 → get_or (head v) 20 0 ≡ v / 128
  pub middle : 16384 ≤ v → get_or (head v) 20 0 ≡ v / 128 % 128 + 128
  pub three : 16384 ≤ v → get_or (head v) 21 0 ≡ v / 128 / 128

digits_one : (v : ℕ) → v < 128 → Digits v
digits_one v h =
    let first : get_or (head v) 19 0 ≡ v = head_at v 0 ∙ ap (λ (t : List ℕ). get_or (t ++ after_unit) 0 0) (unit_one v h) in
    record {
      one = λ g. first;
      more = λ g. absurd (omega arith);
      two = λ g i. absurd (omega arith);
      middle = λ g.
          absurd (omega arith);
      three = λ g. absurd (omega arith);
    }

digits_two : (v : ℕ) → 128 ≤ v → v < 16384 → Digits v
digits_two v h k =
    let first : get_or (head v) 19 0 ≡ v % 128 + 128 = head_at v 0 ∙ ap (λ (t : List ℕ). get_or (t ++ after_unit) 0 0) (unit_two v h k) in
    let second : get_or (head v) 20 0 ≡ v / 128 = head_at v 1 ∙ ap (λ (t : List ℕ). get_or (t ++ after_unit) 1 0) (unit_two v h k) in
    record { one = λ g. absurd (omega arith); more = λ g. first; two = λ g i. second; middle = λ g. absurd (omega arith); three = λ g. absurd (omega arith) }

digits_three : (v : ℕ) → 16384 ≤ v → v < 2097152 → Digits v
digits_three v h k =
    let first : get_or (head v) 19 0 ≡ v % 128 + 128 = head_at v 0 ∙ ap (λ (t : List ℕ). get_or (t ++ after_unit) 0 0) (unit_three v h k) in
    let second : get_or (head v) 20 0 ≡ v / 128 % 128 + 128 = head_at v 1 ∙ ap (λ (t : List ℕ). get_or (t ++ after_unit) 1 0) (unit_three v h k) in
    let third : get_or (head v) 21 0 ≡ v / 128 / 128 = head_at v 2 ∙ ap (λ (t : List ℕ). get_or (t ++ after_unit) 2 0) (unit_three v h k) in
    record { one = λ g. absurd (omega arith); more = λ g. first; two = λ g i. absurd (omega arith); middle = λ g. second; three = λ g. third }

pub digits : (v : ℕ) → IsUnit v → Digits v
digits v h =
    elim (cases_lt v 128) [
      | inl a ↦ digits_one v a
      | inr b ↦ elim (cases_lt v 16384) [ inl a ↦ digits_two v b a | inr d ↦ digits_three v d (omega (arith, h.few)) ]
    ]

head_long : (v : ℕ) → 39 ≤ length (head v)
head_long v = omega (arith, ap length (head_opens v), length-append before_unit (unsigned_text v ++ after_unit), length-append (unsigned_text v) after_unit)

front_same : (u v i : ℕ) → i < 19 → get_or (head u) i 0 ≡ get_or (head v) i 0
front_same u v i h =
    ap (λ (t : List ℕ). get_or t i 0) (head_opens u)
    ∙ (get_or_append_left before_unit (unsigned_text u ++ after_unit) 0 i h
    ∙ (sym (get_or_append_left before_unit (unsigned_text v ++ after_unit) 0 i h) ∙ sym
    (ap (λ (t : List ℕ). get_or t i 0) (head_opens v))))

-- ---- a head that is as near as another

same_at : (bytes : List ℕ) (u i k : ℕ) → i ≡ k → get_or bytes k 0 ≡ get_or (head u) k 0 → get_or bytes i 0 ≡ get_or (head u) i 0
same_at bytes u i k e h = subst (λ (n : ℕ). get_or bytes n 0 ≡ get_or (head u) n 0) (sym e) h

-- as far as the unit's third byte, a head is as near as another where the bytes are its own
pub near_by : (bytes : List ℕ) (u v n : ℕ) → n ≤ 21 → (19 < n → get_or bytes 19 0 ≡ get_or (head u) 19 0)
    → (20 < n → get_or bytes 20 0 ≡ get_or (head u) 20 0) → BeginAlike bytes (head v) n → BeginAlike bytes (head u) n
near_by bytes u v n few one two a = record {
  within = a.within;
  fits = omega (arith, head_long u);
  same = λ i below. elim (cases_lt i 19) [
    | inl h ↦ a.same i below ∙ front_same v u i h
    | inr h ↦ elim (cases_lt i 20) [
      | inl g ↦ same_at bytes u i 19 (omega arith) (one (omega arith))
      | inr g ↦ same_at bytes u i 20 (omega arith) (two (omega arith))
    ]
  ];
}

pub near_same : (bytes : List ℕ) (u v n : ℕ) → v ≡ u → BeginAlike bytes (head v) n → BeginAlike bytes (head u) n
near_same bytes u v n e a = subst (λ (w : ℕ). BeginAlike bytes (head w) n) e a

-- ---- heads that begin alike

pub alike_of : (bytes : List ℕ) (n : ℕ) (b : BeginsHead bytes n) → BeginAlike bytes (head b.unit) n
alike_of bytes n b =
    let size : length (take n bytes) ≡ n = length-take-le n bytes b.within in
    record {
      within = b.within;
      fits = omega (arith, ap length b.text, length-append (take n bytes) b.rest);
      same = λ i below. sym
          (ap (λ (t : List ℕ). get_or t i 0) b.text
          ∙ (get_or_append_left (take n bytes) b.rest 0 i (omega arith) ∙ get_or-take n bytes i 0 below));
    }

alike_take : (bytes text : List ℕ) (n : ℕ) → BeginAlike bytes text n → take n text ≡ take n bytes
alike_take bytes text n a =
    ext_get_or 0 (take n text) (take n bytes) (length-take-le n text a.fits ∙ sym (length-take-le n bytes a.within))
    (λ i below. let low : i < n = omega (arith, length-take-le n text a.fits) in get_or-take n text i 0 low
    ∙ (sym (a.same i low) ∙ sym (get_or-take n bytes i 0 low)))

pub begins_by : (bytes : List ℕ) (u n : ℕ) → IsUnit u → BeginAlike bytes (head u) n → BeginsHead bytes n
begins_by bytes u n h a = record {
  within = a.within;
  unit = u;
  unit_fits = h;
  rest = drop n (head u);
  text = sym (take-append-drop n (head u)) ∙ ap (λ (t : List ℕ). t ++ drop n (head u)) (alike_take bytes (head u) n a);
}
