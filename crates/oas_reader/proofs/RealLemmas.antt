-- Reals that are whole numbers, and how they are rounded down.
use Rattle.std.proofs.Common.{◌≡◌, ℕ, zero, suc, ◌+◌, ◌-◌, ◌*◌, ◌/◌, ◌%◌, ◌^◌, ◌<◌, ◌≤◌, ◌↔◌, inl, inr, refl, sym, ap, ◌∙◌, arith, add-one, Option, Some, None}
use Rattle.std.specs.Prelude.{ℤ, pos, negsuc, ◌*ℤ◌, unsigned_abs}
use Rattle.std.proofs.Math.Nat.{mul-div_cancel, mul_assoc, pow-succ', mul-lt-mul_of_pos_right, mul-add-mod_self_right, mod-eq_of_lt}
use Rattle.std.proofs.Math.Pow.{pow-lt}
use Rattle.std.proofs.lemmas.Bool.{cases_lt}
use Rattle.std.proofs.lemmas.Nat.{pow-add, pow_pos, div-mul-add}
use Rattle.oas_lex.specs.Reals.{RealForm, OneNumber, TwoNumbers, FourBytes, EightBytes, form_of, sign_of, with_sign}
use Rattle.oas_lex.specs.Reals.{top_of, bottom_of, IsQuotient, IsPower, IsIeee, IsMagnitude, IsWholeOasisReal}
use Rattle.oas_lex.specs.declared.reals.Real.{Real}
use Rattle.oas_reader.specs.Reals.{ieee_floor, floor_by, floor_of, IsOasisFactor, IsOasisAngle}
use Rattle.layout_model.proofs.ForCallers.{IsOneReal}

-- ---- rounded down

quotient_floor : (top bottom q : ℕ) → IsQuotient top bottom q → top / bottom ≡ q
quotient_floor top zero q p = absurd (p.some refl)
quotient_floor top (suc bottom) q p = ap (λ n. n / suc bottom) p.exact ∙ mul-div_cancel q (omega arith)

-- 2^m in two parts
parted : (m e : ℕ) → e ≤ m → 2 ^ m ≡ 2 ^ e * 2 ^ (m - e)
parted m e h =
    let whole : e + (m - e) ≡ m = omega arith in
    ap (λ n. 2 ^ n) (sym whole) ∙ pow-add 2 e (m - e)

doubled : (e : ℕ) → 2 ^ (e + 1) ≡ 2 * 2 ^ e
doubled e = rw add-one (pow-succ' 2 e)

small_power : (e q : ℕ) → 2 ^ e ≤ q → q < 2 ^ 24 → e < 24
small_power e q least most =
    elim (cases_lt e 24) [
      | inl small ↦ small
      | inr large ↦
          elim (cases_lt 24 e) [
            | inl above ↦ absurd (omega (arith, pow-lt {i = 24} {j = e} above))
            | inr below ↦ let same : e ≡ 24 = omega arith in let power : 2 ^ e ≡ 2 ^ 24 = ap (λ n. 2 ^ n) same in absurd (omega arith)
          ]
    ]

joined_part : (E P q : ℕ) → E ≤ q → E * P + (q - E) * P ≡ q * P
joined_part E P q least =
    let split : (E + (q - E)) * P ≡ E * P + (q - E) * P = omega arith in
    let same : E + (q - E) ≡ q = omega arith in
    sym split ∙ ap (λ n. n * P) same

powers : (m B e q : ℕ) → e ≤ m → q * 2 ^ (m - e) * 2 ^ (B + e) ≡ q * 2 ^ (m + B)
powers m B e q inside =
    let exponents : (m - e) + (B + e) ≡ m + B = omega arith in
    mul_assoc q (2 ^ (m - e)) (2 ^ (B + e)) ∙ ap (λ n. q * n) (sym (pow-add 2 (m - e) (B + e)) ∙ ap (λ n. 2 ^ n) exponents)

power_floor : (m B bits q e : ℕ) → 23 ≤ m → q < 2 ^ 24 → IsPower m B bits q e → ieee_floor m B bits ≡ q
unfolding ieee_floor
power_floor m B bits q e large most p =
    let small : e < 24 = small_power e q p.least most in
    let inside : e ≤ m = omega arith in
    let parts : 2 ^ m ≡ 2 ^ e * 2 ^ (m - e) = parted m e inside in
    let below : q - 2 ^ e < 2 ^ e = omega (arith, p.most, doubled e, p.least) in
    let rest : (q - 2 ^ e) * 2 ^ (m - e) < 2 ^ m = rw parts (mul-lt-mul_of_pos_right {m = q - 2 ^ e} {n = 2 ^ e} {k = 2 ^ (m - e)} below (pow_pos (m - e))) in
    let left : bits % 2 ^ m ≡ (q - 2 ^ e) * 2 ^ (m - e) =
    ap (λ n. n % 2 ^ m) p.bits_are ∙ (mul-add-mod_self_right (B + e) (2 ^ m) ((q - 2 ^ e) * 2 ^ (m - e)) ∙ mod-eq_of_lt rest) in
    let exponent : bits / 2 ^ m ≡ B + e = ap (λ n. n / 2 ^ m) p.bits_are ∙ div-mul-add (B + e) (2 ^ m) ((q - 2 ^ e) * 2 ^ (m - e)) rest in
    let product : 2 ^ m + bits % 2 ^ m ≡ q * 2 ^ (m - e) =
    ap (λ n. 2 ^ m + n) left ∙ (ap (λ n. n + (q - 2 ^ e) * 2 ^ (m - e)) parts ∙ joined_part (2 ^ e) (2 ^ (m - e)) q p.least) in
    ap (λ n. n * 2 ^ (bits / 2 ^ m) / 2 ^ (m + B)) product ∙ ap (λ n. q * 2 ^ (m - e) * 2 ^ n / 2 ^ (m + B)) exponent
    ∙ ap (λ n. n / 2 ^ (m + B)) (powers m B e q inside) ∙ mul-div_cancel q (pow_pos (m + B))

single_floor : (bits q : ℕ) → q < 2 ^ 24 → IsIeee 23 127 bits q → ieee_floor 23 127 bits ≡ q
unfolding ieee_floor
single_floor bits zero most p = rw p refl
single_floor bits (suc q) most p = power_floor 23 127 bits (suc q) p.0 (omega arith) most p.1

double_floor : (bits q : ℕ) → q < 2 ^ 24 → IsIeee 52 1023 bits q → ieee_floor 52 1023 bits ≡ q
unfolding ieee_floor
double_floor bits zero most p = rw p refl
double_floor bits (suc q) most p = power_floor 52 1023 bits (suc q) p.0 (omega arith) most p.1

floor_in : (form : Option RealForm) (real : Real) (q : ℕ) → q < 2 ^ 24 → IsMagnitude form real q → floor_by form real ≡ q
floor_in (Some OneNumber) real q most p = quotient_floor (top_of real) (bottom_of real) q p
floor_in (Some TwoNumbers) real q most p = quotient_floor real.a real.b q p
floor_in (Some FourBytes) real q most p = single_floor (real.a % 2 ^ 31) q most p
floor_in (Some EightBytes) real q most p = double_floor (real.a % 2 ^ 63) q most p
floor_in None real q most p = absurd p

-- a real that is a whole number is that number but for its sign
pub floor_whole : (real : Real) (n : ℤ) → IsWholeOasisReal real n → floor_of real ≡ unsigned_abs n
unfolding floor_of
floor_whole real n p = floor_in (form_of real.kind) real (unsigned_abs n) p.small p.magnitude

-- ---- signs

pos_sign : (sign n : ℕ) → pos (suc n) ≡ with_sign sign (suc n) → sign ≡ 0
pos_sign zero n e = refl
pos_sign (suc sign) n e = absurd (cc)

neg_sign : (sign n : ℕ) → negsuc n ≡ with_sign sign (suc n) → (s : ℕ) × (sign ≡ suc s)
neg_sign zero n e = absurd (cc)
neg_sign (suc sign) n e = (sign, refl)

-- a real is one whole number at most, which has its sign and, rounded down, its size
pub one_real : (real : Real) (w : Option ℤ) → ((n : ℤ) → (w ≡ Some n) ↔ IsWholeOasisReal real n)
    → IsOneReal (IsWholeOasisReal real) (sign_of (form_of real.kind) real) (floor_of real)
one_real real w whole = record {
  one = λ z v a b. (let p : w ≡ Some z = (whole z).1 a in let q : w ≡ Some v = (whole v).1 b in cc);
  size_is = λ z is. floor_whole real z is;
  up = λ n is. pos_sign (sign_of (form_of real.kind) real) n is.signed;
  down = λ n is. neg_sign (sign_of (form_of real.kind) real) n is.signed;
}

-- a real that isn't whole is none
pub never_factor : (real : Real) (w : Option ℤ) → ((n : ℤ) → (w ≡ Some n) ↔ IsWholeOasisReal real n) → w ≡ None → IsOasisFactor (Some real) → ⊥
never_factor real w whole is factor = let some : w ≡ Some (pos factor.0) = (whole (pos factor.0)).1 factor.1 in absurd (cc)

pub never_turn : (real : Real) (w : Option ℤ) → ((n : ℤ) → (w ≡ Some n) ↔ IsWholeOasisReal real n) → w ≡ None → IsOasisAngle (Some real) → ⊥
never_turn real w whole is angle = let some : w ≡ Some (pos 90 *ℤ angle.0) = (whole (pos 90 *ℤ angle.0)).1 angle.1 in absurd (cc)
