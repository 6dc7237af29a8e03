-- The value of an eight-byte real.
use Rattle.std.proofs.Common.{◌≡◌, ℕ, zero, suc, ◌<◌, ◌≤◌, ◌+◌, ◌*◌, ◌^◌, ◌/◌, ◌%◌, ◌-◌, ◌↔◌, inr, Option, Some, None}
use Rattle.std.proofs.Common.{refl, sym, ap, subst, ◌∙◌, arith, lit<, w64, to_z, of_z}
use Rattle.std.proofs.Math.Nat.{eq_of_mul-eq-mul_right, mul-le-mul_right, mul_assoc, one-le-pow, div-add-mod', div-eq_of_eq-mul_left}
use Rattle.std.proofs.lemmas.Int.{ints, unsigned_abs-mul}
use Rattle.std.proofs.lemmas.Nat.{pow-add, mul-pow, one_shl, pow_pos}
use Rattle.std.specs.Int.RustNames.{unsigned_abs}
use Rattle.std.specs.Prelude.{IsTrue, Bool, ℤ, pos, negsuc, ◌*ℤ◌, ◌-ℤ◌, neg_ℤ}
use Rattle.gds_record.specs.Reals.{sign_of, exponent_of, fraction_of, with_sign, IsRealValue, IsShift, IsWholeGdsiiReal, IsWithinTolerance, AgreesWithUnit}

-- 16^e in powers of two
sixteen : (e : ℕ) → 16 ^ e ≡ 2 ^ (4 * e)
sixteen e =
    let fours : 16 ^ e ≡ 4 ^ e * 4 ^ e = mul-pow 4 4 e in
    let twos : 4 ^ e ≡ 2 ^ e * 2 ^ e = mul-pow 2 2 e in
    let once : 2 ^ (e + e) ≡ 2 ^ e * 2 ^ e = pow-add 2 e e in
    let again : 2 ^ ((e + e) + (e + e)) ≡ 2 ^ (e + e) * 2 ^ (e + e) = pow-add 2 (e + e) (e + e) in
    let same : (e + e) + (e + e) ≡ 4 * e = omega arith in
    rw (← same, again, once, fours, twos) refl

-- a real is its fraction over 2^s
scale : (e s : ℕ) → s + 4 * e ≡ 56 + 4 * 64 → 2 ^ s * 16 ^ e ≡ 16 ^ 64 * 2 ^ 56
scale e s h = rw (sixteen e, ← pow-add 2 s (4 * e), h) refl

with_sign-mul : (sign a k : ℕ) → with_sign sign (a * k) ≡ with_sign sign a *ℤ pos k
with_sign-mul zero a k = refl
with_sign-mul (suc sign) a k = grind (arith, ints)

abs_of : (sign a : ℕ) → unsigned_abs (with_sign sign a) ≡ a
abs_of zero a = refl
abs_of (suc sign) zero = refl
abs_of (suc sign) (suc a) = refl

abs_of_neg : (x : ℕ) → unsigned_abs (neg_ℤ (pos x)) ≡ x
abs_of_neg zero = refl
abs_of_neg (suc x) = refl

apart : (x y : ℕ) → zero < x → pos y ≡ neg_ℤ (pos x) → ⊥
apart zero y h e = omega arith
apart (suc x) y h e = cc

above_zero : (b k : ℕ) → zero < k → zero < suc b * k
above_zero b k h = omega (arith, mul-le-mul_right {m = 1} {n = suc b} k (omega arith))

-- only one whole number is a given multiple
multiple_unique : (k : ℕ) → zero < k → (m n : ℤ) → m *ℤ pos k ≡ n *ℤ pos k → m ≡ n
multiple_unique k h (pos a) (pos b) e = ap pos (eq_of_mul-eq-mul_right k h a b (ap unsigned_abs e))
multiple_unique k h (pos a) (negsuc b) e = absurd (apart (suc b * k) (a * k) (above_zero b k h) e)
multiple_unique k h (negsuc a) (pos b) e = absurd (apart (suc a * k) (b * k) (above_zero a k h) (sym e))
multiple_unique k h (negsuc a) (negsuc b) e =
    let same : suc a * k ≡ suc b * k = sym (abs_of_neg (suc a * k)) ∙ ap unsigned_abs e ∙ abs_of_neg (suc b * k) in
    let equal : suc a ≡ suc b = eq_of_mul-eq-mul_right k h (suc a) (suc b) same in
    ap negsuc (omega (arith, equal))

-- the fraction over 2^s is the whole number
exact : (sign m e s q : ℕ) → s + 4 * e ≡ 56 + 4 * 64 → m ≡ q * 2 ^ s
    → with_sign sign (m * 16 ^ e) ≡ with_sign sign q *ℤ pos (16 ^ 64 * 2 ^ 56)
exact sign m e s q shift h =
    let product : m * 16 ^ e ≡ q * (16 ^ 64 * 2 ^ 56) =
    ap (λ x. x * 16 ^ e) h ∙ mul_assoc q (2 ^ s) (16 ^ e) ∙ ap (λ x. q * x) (scale e s shift) in
    ap (with_sign sign) product ∙ with_sign-mul sign q (16 ^ 64 * 2 ^ 56)

-- a whole number that the real is gives the fraction over 2^s
divides : (sign m e s : ℕ) (n : ℤ) → s + 4 * e ≡ 56 + 4 * 64
    → with_sign sign (m * 16 ^ e) ≡ n *ℤ pos (16 ^ 64 * 2 ^ 56) → m ≡ unsigned_abs n * 2 ^ s
divides sign m e s n shift h =
    let size : m * 16 ^ e ≡ unsigned_abs n * (16 ^ 64 * 2 ^ 56) =
    sym (abs_of sign (m * 16 ^ e)) ∙ ap unsigned_abs h ∙ unsigned_abs-mul n (pos (16 ^ 64 * 2 ^ 56)) in
    let split : unsigned_abs n * (16 ^ 64 * 2 ^ 56) ≡ unsigned_abs n * 2 ^ s * 16 ^ e =
    ap (λ x. unsigned_abs n * x) (sym (scale e s shift)) ∙ sym (mul_assoc (unsigned_abs n) (2 ^ s) (16 ^ e)) in
    eq_of_mul-eq-mul_right (16 ^ e) (one-le-pow e 16 (omega arith)) m (unsigned_abs n * 2 ^ s) (size ∙ split)

-- a real is at most one whole number
pub real_value_unique : (bits : ℕ) (m n : ℤ) → IsRealValue bits m → IsRealValue bits n → m ≡ n
real_value_unique bits m n p q = multiple_unique (16 ^ 64 * 2 ^ 56) (lit< tt) m n (sym p ∙ q)

-- what an answer that gives the value has to show
pub taken : (bits : ℕ) (m : ℤ) → IsWholeGdsiiReal bits m → (n : ℤ)
    → (Some m ≡ Some n → IsWholeGdsiiReal bits n) × (IsWholeGdsiiReal bits n → Some m ≡ Some n)
taken bits m w n =
    (λ e. let same : m ≡ n = cc in subst (IsWholeGdsiiReal bits) same w, λ v. ap Some (real_value_unique bits m n w.value v.value))

-- the value of a real whose fraction 2^s divides
pub exact_value : (bits sign s q : ℕ) → sign_of bits ≡ sign → IsShift bits s → s ≤ 56 → fraction_of bits ≡ q * 2 ^ s
    → IsWholeGdsiiReal bits (with_sign sign q)
exact_value bits sign s q signed shift small h = record {
  scope = inr (s, shift, small);
  value = rw signed (exact sign (fraction_of bits) (exponent_of bits) s q shift h);
}

-- a whole number that the real is makes 2^s a divisor of the fraction
pub no_value : (bits s : ℕ) (n : ℤ) → IsShift bits s → IsWholeGdsiiReal bits n → fraction_of bits ≡ unsigned_abs n * 2 ^ s
no_value bits s n shift w = divides (sign_of bits) (fraction_of bits) (exponent_of bits) s n shift w.value

-- the fraction is no multiple of 2^s: no whole number
pub no_quotient : (bits f e : ℕ) (quotient : Option ℕ) → f ≡ fraction_of bits → e ≡ exponent_of bits → e ≤ 78
    → ((q : ℕ) → (quotient ≡ Some q) ↔ (f ≡ q * 2 ^ (312 - 4 * e))) → quotient ≡ None → (n : ℤ) → IsWholeGdsiiReal bits n → ⊥
no_quotient bits f e quotient fraction exponent small h none n w =
    let shift : IsShift bits (312 - 4 * e) = omega (arith, exponent, small) in
    let product : f ≡ unsigned_abs n * 2 ^ (312 - 4 * e) = fraction ∙ no_value bits (312 - 4 * e) n shift w in
    let found : quotient ≡ Some (unsigned_abs n) = (h (unsigned_abs n)).1 product in
    cc

-- the fraction is q * 2^s: the whole number q with the sign
pub some_quotient : (bits sign f e q : ℕ) → sign_of bits ≡ sign → f ≡ fraction_of bits → e ≡ exponent_of bits
    → 64 ≤ e → e ≤ 78 → f ≡ q * 2 ^ (312 - 4 * e) → IsWholeGdsiiReal bits (with_sign sign q)
some_quotient bits sign f e q signed fraction exponent large small h =
    exact_value bits sign (312 - 4 * e) q signed (omega (arith, exponent, small)) (omega (arith, large)) (sym fraction ∙ h)

-- the quotient of a division that is exact
pub quotient_exact : (f s : ℕ) → s ≤ 56 → f % ((1 * 2 ^ s) % 2 ^ 64) ≡ 0 → (q : ℕ)
    → (Some (f / ((1 * 2 ^ s) % 2 ^ 64)) ≡ Some q) ↔ (f ≡ q * 2 ^ s)
quotient_exact f s small exact q =
    let divisor : (1 * 2 ^ s) % 2 ^ 64 ≡ 2 ^ s = one_shl s 64 (omega (arith, small)) in
    let rest : f % 2 ^ s ≡ 0 = ap (λ d. f % d) (sym divisor) ∙ exact in
    let whole : f / 2 ^ s * 2 ^ s + f % 2 ^ s ≡ f = div-add-mod' f (2 ^ s) in
    rw divisor (
      (λ some. let same : f / 2 ^ s ≡ q = cc in rw (← same) (omega (arith, whole, rest))),
      (λ product. ap Some (div-eq_of_eq-mul_left (pow_pos s) product)),
    )

-- a real whose sign isn't 1 has the sign 0
pub positive : (bits : ℕ) → bits < 2 ^ 64 → ¬ (sign_of bits ≡ 1) → sign_of bits ≡ 0
positive bits fits not_one = omega arith

-- a magnitude as a signed number, and negated
pub signed_magnitude : (q f bits : ℕ) → q ≤ f → f ≡ fraction_of bits → to_z w64 q ≡ pos q
signed_magnitude q f bits small fraction = omega (arith, ints)

pub negated_magnitude : (q f bits : ℕ) → q ≤ f → f ≡ fraction_of bits → to_z w64 (of_z w64 (pos 0 -ℤ to_z w64 q)) ≡ neg_ℤ (pos q)
negated_magnitude q f bits small fraction = omega (arith, ints)

-- what the test of a unit has to show, where the shift is in range and the sign isn't set
pub agrees_at : (bits unit f u e : ℕ) (result : Bool) → sign_of bits ≡ 0 → f ≡ fraction_of bits → u ≡ unit → e ≡ exponent_of bits
    → 51 ≤ e → e ≤ 68
    → (IsTrue result ↔ IsWithinTolerance (f * u * 1000000) ((1 * 2 ^ (312 - 4 * e)) % 2 ^ 128) ((1 * 2 ^ (312 - 4 * e - 40)) % 2 ^ 128))
    → IsTrue result ↔ AgreesWithUnit bits unit
agrees_at bits unit f u e result signed fraction units exponent large small test =
    let one : (1 * 2 ^ (312 - 4 * e)) % 2 ^ 128 ≡ 2 ^ (312 - 4 * e) = one_shl (312 - 4 * e) 128 (omega (arith, large)) in
    let tolerance : (1 * 2 ^ (312 - 4 * e - 40)) % 2 ^ 128 ≡ 2 ^ (312 - 4 * e - 40) =
    one_shl (312 - 4 * e - 40) 128 (omega (arith, large)) in
    let near = rw (one, tolerance, fraction, units) at test in (
      λ yes. (
        312 - 4 * e,
        record {
          shift = omega (arith, exponent, small);
          least = omega (arith, small);
          most = omega (arith, large);
          positive = signed;
          near = near.0 yes;
        },
      ),
      λ agrees.
          let shift : agrees.0 + 4 * exponent_of bits ≡ 312 = agrees.1.shift in
          let same : agrees.0 ≡ 312 - 4 * e = omega (arith, exponent, shift) in
          near.1 (subst (λ k. IsWithinTolerance (fraction_of bits * unit * 10 ^ 6) (2 ^ k) (2 ^ (k - 40))) same agrees.1.near),
    )
