-- The unit whose head has the most in common with bytes, by the bytes where the unit of a head stands.
use Rattle.std.proofs.Common.{◌≡◌, ◌≢◌, ◌⊎◌, ℕ, ◌+◌, ◌*◌, ◌/◌, ◌%◌, ◌<◌, ◌≤◌, List, get_or, arith, sym, ◌∙◌, inl, inr}
use Rattle.std.proofs.lemmas.Bool.{cases_lt}
use Rattle.oas_lex.specs.ShotText.{IsUnit, head}
use Rattle.shot_reader.specs.Alike.{BeginAlike}
use Rattle.shot_reader.proofs.Alikes.{Digits, digits, near_by, near_same}

-- no unit has a spelling that begins with 0, or with an odd byte
few_zero : (v a : ℕ) → IsUnit v → a ≡ get_or (head v) 19 0 → a ≡ 0 → ⊥
few_zero v a h e z =
    let d : Digits v = digits v h in
    elim (cases_lt v 128) [ inl g ↦ omega (arith, d.one g, h.some) | inr g ↦ omega (arith, d.more g) ]

few_odd : (v a : ℕ) → IsUnit v → a ≡ get_or (head v) 19 0 → a % 2 ≢ 0 → ⊥
few_odd v a h e z =
    let d : Digits v = digits v h in
    elim (cases_lt v 128) [ inl g ↦ omega (arith, d.one g, h.even) | inr g ↦ omega (arith, d.more g, h.even) ]

one_is : (v a : ℕ) → IsUnit v → a ≡ get_or (head v) 19 0 → a < 128 → v ≡ a
one_is v a h e z =
    let d : Digits v = digits v h in
    elim (cases_lt v 128) [ inl g ↦ omega (arith, d.one g) | inr g ↦ absurd (omega (arith, d.more g)) ]

-- from 128 on, the first byte is the lowest group
low_is : (v a : ℕ) → IsUnit v → a ≡ get_or (head v) 19 0 → 128 ≤ a → (128 ≤ v) × (a ≡ v % 128 + 128)
low_is v a h e z =
    let d : Digits v = digits v h in
    elim (cases_lt v 128) [ inl g ↦ absurd (omega (arith, d.one g)) | inr g ↦ (g, e ∙ d.more g) ]

few_second : (v b : ℕ) → IsUnit v → 128 ≤ v → b ≡ get_or (head v) 20 0 → b ≡ 0 → ⊥
few_second v b h k e z =
    let d : Digits v = digits v h in
    elim (cases_lt v 16384) [ inl g ↦ omega (arith, d.two k g) | inr g ↦ omega (arith, d.middle g) ]

two_is : (v b : ℕ) → IsUnit v → 128 ≤ v → b ≡ get_or (head v) 20 0 → b < 128 → b ≡ v / 128
two_is v b h k e z =
    let d : Digits v = digits v h in
    elim (cases_lt v 16384) [ inl g ↦ e ∙ d.two k g | inr g ↦ absurd (omega (arith, d.middle g)) ]

middle_is : (v b : ℕ) → IsUnit v → 128 ≤ v → b ≡ get_or (head v) 20 0 → 128 ≤ b → (16384 ≤ v) × (b ≡ v / 128 % 128 + 128)
middle_is v b h k e z =
    let d : Digits v = digits v h in
    elim (cases_lt v 16384) [ inl g ↦ absurd (omega (arith, d.two k g)) | inr g ↦ (g, e ∙ d.middle g) ]

-- ---- by the bytes

pub near_zero : (bytes : List ℕ) (a u v n : ℕ) → a ≡ get_or bytes 19 0 → IsUnit v → a ≡ 0 → BeginAlike bytes (head v) n → BeginAlike bytes (head u) n
near_zero bytes a u v n e h z k =
    elim (cases_lt 19 n) [
      | inl g ↦ absurd (few_zero v a h (e ∙ k.same 19 g) z)
      | inr g ↦ near_by bytes u v n (omega arith) (λ l. absurd (omega arith)) (λ l. absurd (omega arith)) k
    ]

pub near_odd : (bytes : List ℕ) (a u v n : ℕ) → a ≡ get_or bytes 19 0 → IsUnit v → a % 2 ≢ 0 → BeginAlike bytes (head v) n → BeginAlike bytes (head u) n
near_odd bytes a u v n e h z k =
    elim (cases_lt 19 n) [
      | inl g ↦ absurd (few_odd v a h (e ∙ k.same 19 g) z)
      | inr g ↦ near_by bytes u v n (omega arith) (λ l. absurd (omega arith)) (λ l. absurd (omega arith)) k
    ]

pub near_one : (bytes : List ℕ) (a v n : ℕ) → a ≡ get_or bytes 19 0 → IsUnit v → a < 128 → BeginAlike bytes (head v) n → BeginAlike bytes (head a) n
near_one bytes a v n e h z k =
    elim (cases_lt 19 n) [
      | inl g ↦ near_same bytes a v n (one_is v a h (e ∙ k.same 19 g) z) k
      | inr g ↦ near_by bytes a v n (omega arith) (λ l. absurd (omega arith)) (λ l. absurd (omega arith)) k
    ]

-- the first byte is that of the head of u
own_low : (a u : ℕ) → IsUnit u → 128 ≤ u → a ≡ u % 128 + 128 → a ≡ get_or (head u) 19 0
own_low a u h k e = e ∙ sym ((digits u h).more k)

pub near_low : (bytes : List ℕ) (a b v n : ℕ) → a ≡ get_or bytes 19 0 → b ≡ get_or bytes 20 0 → a < 256 → IsUnit a
    → IsUnit v → 128 ≤ a → b ≡ 0 → BeginAlike bytes (head v) n → BeginAlike bytes (head a) n
near_low bytes a b v n e f low i h z none k =
    elim (cases_lt 20 n) [
      | inl g ↦ absurd (few_second v b h (low_is v a h (e ∙ k.same 19 (omega arith)) z).0 (f ∙ k.same 20 g) none)
      | inr g ↦ near_by bytes a v n (omega arith) (λ l. sym e ∙ own_low a a i z (omega arith)) (λ l. absurd (omega arith)) k
    ]

pub near_two : (bytes : List ℕ) (a b u v n : ℕ) → a ≡ get_or bytes 19 0 → b ≡ get_or bytes 20 0 → a < 256 → IsUnit u
    → IsUnit v → 128 ≤ a → b ≢ 0 → b < 128 → u ≡ a % 128 + b * 128
    → BeginAlike bytes (head v) n → BeginAlike bytes (head u) n
near_two bytes a b u v n e f low i h z some few is k =
    elim (cases_lt 20 n) [
      | inl g ↦
          let first = low_is v a h (e ∙ k.same 19 (omega arith)) z in
          let second = two_is v b h first.0 (f ∙ k.same 20 g) few in
          near_same bytes u v n (omega (arith, first.1)) k
      | inr g ↦ near_by bytes u v n (omega arith) (λ l. sym e ∙ own_low a u i (omega arith) (omega arith)) (λ l. absurd (omega arith)) k
    ]

own_middle : (b u : ℕ) → IsUnit u → 16384 ≤ u → b ≡ u / 128 % 128 + 128 → b ≡ get_or (head u) 20 0
own_middle b u h k e = e ∙ sym ((digits u h).middle k)

-- a head of three groups whose two lowest are those of the bytes
near_three : (bytes : List ℕ) (a b d u v n : ℕ) → a ≡ get_or bytes 19 0 → b ≡ get_or bytes 20 0 → a < 256 → b < 256
    → IsUnit u → 128 ≤ a → 128 ≤ b → 1 ≤ d → u ≡ a % 128 + b % 128 * 128 + d * 16384
    → n ≤ 21 → BeginAlike bytes (head v) n → BeginAlike bytes (head u) n
near_three bytes a b d u v n e f low next i z y some is few k =
    near_by bytes u v n few (λ l. sym e ∙ own_low a u i (omega arith) (omega arith)) (λ l. sym f ∙ own_middle b u i (omega arith) (omega arith)) k

-- the third byte is the highest group
high_is : (bytes : List ℕ) (a b d v n : ℕ) → a ≡ get_or bytes 19 0 → b ≡ get_or bytes 20 0 → d ≡ get_or bytes 21 0
    → IsUnit v → 128 ≤ a → 128 ≤ b → BeginAlike bytes (head v) n → 21 < n → (16384 ≤ v)
    × (v ≡ a % 128 + b % 128 * 128 + d * 16384)
high_is bytes a b d v n e f g h z y k long =
    let first = low_is v a h (e ∙ k.same 19 (omega arith)) z in
    let second = middle_is v b h first.0 (f ∙ k.same 20 (omega arith)) y in
    let third : d ≡ v / 128 / 128 = g ∙ (k.same 21 long ∙ (digits v h).three second.0) in
    (second.0, omega (arith, first.1, second.1))

pub near_short : (bytes : List ℕ) (a b d u v n : ℕ) → a ≡ get_or bytes 19 0 → b ≡ get_or bytes 20 0
    → d ≡ get_or bytes 21 0 → a < 256 → b < 256 → IsUnit u → IsUnit v → 128 ≤ a → 128 ≤ b
    → u ≡ a % 128 + b % 128 * 128 + 16384
    → (d ≡ 0) ⊎ (2000000 < a % 128 + b % 128 * 128 + d * 16384) → BeginAlike bytes (head v) n → BeginAlike bytes (head u) n
near_short bytes a b d u v n e f g low next i h z y is out k =
    elim (cases_lt 21 n) [
      | inl long ↦
          let own = high_is bytes a b d v n e f g h z y k long in
          absurd (elim out [ inl none ↦ omega (arith, own.0, own.1) | inr much ↦ omega (arith, own.0, own.1, h.few) ])
      | inr few ↦ near_three bytes a b 1 u v n e f low next i z y (omega arith) (omega arith) (omega arith) k
    ]

pub near_whole : (bytes : List ℕ) (a b d u v n : ℕ) → a ≡ get_or bytes 19 0 → b ≡ get_or bytes 20 0
    → d ≡ get_or bytes 21 0 → a < 256 → b < 256 → IsUnit u → IsUnit v → 128 ≤ a → 128 ≤ b → d ≢ 0
    → u ≡ a % 128 + b % 128 * 128 + d * 16384
    → BeginAlike bytes (head v) n → BeginAlike bytes (head u) n
near_whole bytes a b d u v n e f g low next i h z y some is k =
    elim (cases_lt 21 n) [
      | inl long ↦ near_same bytes u v n (omega (arith, (high_is bytes a b d v n e f g h z y k long).1)) k
      | inr few ↦ near_three bytes a b d u v n e f low next i z y (omega arith) is (omega arith) k
    ]
