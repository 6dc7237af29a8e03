-- The whole number that an IEEE number is.
use Rattle.std.proofs.Common.{◌≡◌, ◌≢◌, ℕ, zero, suc, ◌<◌, ◌≤◌, ◌+◌, ◌*◌, ◌^◌, ◌/◌, ◌%◌, ◌-◌, ◌↔◌, ◌⊎◌, inl, inr, Some, refl, sym, ap, ◌∙◌, arith, add-one}
use Rattle.std.proofs.Math.Nat.{le_of_mul-le-mul_right, lt_of_mul-lt-mul_right, mul-lt-mul_of_pos_right}
use Rattle.std.proofs.Math.Nat.{mul-le-mul_right, pow-succ', div-add-mod', mul-add-mod_self_right, mod-eq_of_lt, mod-lt}
use Rattle.std.proofs.Math.Pow.{pow-lt}
use Rattle.std.proofs.lemmas.Bool.{cases_lt}
use Rattle.std.proofs.lemmas.Nat.{pow-add, pow_pos, div-mul-add}
use Rattle.oas_lex.specs.Reals.{IsQuotient, IsPower, IsIeee, IsMagnitude, form_of}
use Rattle.oas_lex.specs.declared.reals.Real.{Real}

-- 2^m in two parts
parted : (m e : ℕ) → e ≤ m → 2 ^ m ≡ 2 ^ e * 2 ^ (m - e)
parted m e h =
    let whole : e + (m - e) ≡ m = omega arith in
    ap (λ n. 2 ^ n) (sym whole) ∙ pow-add 2 e (m - e)

doubled : (e : ℕ) → 2 ^ (e + 1) ≡ 2 * 2 ^ e
doubled e = rw add-one (pow-succ' 2 e)

-- products over plain numbers
above_part : (E P q f : ℕ) → 0 < P → q * P ≡ E * P + f → E ≤ q
above_part E P q f some h = le_of_mul-le-mul_right {m = E} {n = q} {k = P} (omega arith) some

below_part : (E P q f : ℕ) → f < E * P → q * P ≡ E * P + f → q < 2 * E
below_part E P q f small h = lt_of_mul-lt-mul_right P {m = q} {n = 2 * E} (omega arith)

rest_part : (E P q f : ℕ) → E ≤ q → q * P ≡ E * P + f → f ≡ (q - E) * P
rest_part E P q f least h =
    let split : (E + (q - E)) * P ≡ E * P + (q - E) * P = omega arith in
    let same : E + (q - E) ≡ q = omega arith in
    let again : q * P ≡ E * P + (q - E) * P = ap (λ n. n * P) (sym same) ∙ split in
    omega arith

-- what a quotient that is exact says
pub quotient_power : (m B bits q e : ℕ) → e ≤ m → bits / 2 ^ m ≡ B + e → 2 ^ m + bits % 2 ^ m ≡ q * 2 ^ (m - e) → IsPower m B bits q e
quotient_power m B bits q e inside exponent h =
    let parts : 2 ^ m ≡ 2 ^ e * 2 ^ (m - e) = parted m e inside in
    let product : q * 2 ^ (m - e) ≡ 2 ^ e * 2 ^ (m - e) + bits % 2 ^ m = sym h ∙ ap (λ n. n + bits % 2 ^ m) parts in
    let small : bits % 2 ^ m < 2 ^ e * 2 ^ (m - e) = rw (← parts) (mod-lt bits (pow_pos m)) in
    let least : 2 ^ e ≤ q = above_part (2 ^ e) (2 ^ (m - e)) q (bits % 2 ^ m) (pow_pos (m - e)) product in
    let rest : bits % 2 ^ m ≡ (q - 2 ^ e) * 2 ^ (m - e) = rest_part (2 ^ e) (2 ^ (m - e)) q (bits % 2 ^ m) least product in
    record {
      least = least;
      most = rw (doubled e) (below_part (2 ^ e) (2 ^ (m - e)) q (bits % 2 ^ m) small product);
      bits_are = sym (div-add-mod' bits (2 ^ m)) ∙ (ap (λ n. n * 2 ^ m + bits % 2 ^ m) exponent ∙ ap (λ n. (B + e) * 2 ^ m + n) rest);
    }

small_power : (e q : ℕ) → 2 ^ e ≤ q → q < 2 ^ 24 → e < 24
small_power e q least most =
    elim (cases_lt e 24) [
      | inl small ↦ small
      | inr large ↦
          elim (cases_lt 24 e) [
            | inl above ↦ absurd (omega (arith, pow-lt {i = 24} {j = e} above))
            | inr below ↦ let same : e ≡ 24 = omega arith in let power : 2 ^ e ≡ 2 ^ 24 = ap (λ n. 2 ^ n) same in absurd (omega arith)
          ]
    ]

joined_part : (E P q : ℕ) → E ≤ q → E * P + (q - E) * P ≡ q * P
joined_part E P q least =
    let split : (E + (q - E)) * P ≡ E * P + (q - E) * P = omega arith in
    let same : E + (q - E) ≡ q = omega arith in
    sym split ∙ ap (λ n. n * P) same

-- what the bits of a whole number say
pub record Parts (m B bits q e : ℕ) : Type 0 where
  pub small : e < 24
  pub exponent : bits / 2 ^ m ≡ B + e
  pub product : 2 ^ m + bits % 2 ^ m ≡ q * 2 ^ (m - e)

pub power_parts : (m B bits q e : ℕ) → 23 ≤ m → q < 2 ^ 24 → IsPower m B bits q e → Parts m B bits q e
power_parts m B bits q e large most p =
    let small : e < 24 = small_power e q p.least most in
    let parts : 2 ^ m ≡ 2 ^ e * 2 ^ (m - e) = parted m e (omega arith) in
    let below : q - 2 ^ e < 2 ^ e = omega (arith, p.most, doubled e, p.least) in
    let rest : (q - 2 ^ e) * 2 ^ (m - e) < 2 ^ m = rw parts (mul-lt-mul_of_pos_right {m = q - 2 ^ e} {n = 2 ^ e} {k = 2 ^ (m - e)} below (pow_pos (m - e))) in
    let left : bits % 2 ^ m ≡ (q - 2 ^ e) * 2 ^ (m - e) =
    ap (λ n. n % 2 ^ m) p.bits_are ∙ (mul-add-mod_self_right (B + e) (2 ^ m) ((q - 2 ^ e) * 2 ^ (m - e)) ∙ mod-eq_of_lt rest) in
    record {
      small = small;
      exponent = ap (λ n. n / 2 ^ m) p.bits_are ∙ div-mul-add (B + e) (2 ^ m) ((q - 2 ^ e) * 2 ^ (m - e)) rest;
      product = ap (λ n. 2 ^ m + n) left ∙ (ap (λ n. n + (q - 2 ^ e) * 2 ^ (m - e)) parts ∙ joined_part (2 ^ e) (2 ^ (m - e)) q p.least);
    }

-- a number that isn't 0 and has the bits has an exponent in the range
pub ieee_outside : (m B bits q : ℕ) → 23 ≤ m → q < 2 ^ 24 → bits ≢ 0 → (bits / 2 ^ m < B) ⊎ (B + 24 ≤ bits / 2 ^ m) → IsIeee m B bits q → ⊥
ieee_outside m B bits zero large most some out p = some p
ieee_outside m B bits (suc q) large most some out p =
    let parts = power_parts m B bits (suc q) p.0 large most p.1 in
    elim out [
      | inl less ↦ omega (arith, less, parts.exponent)
      | inr more ↦ omega (arith, more, parts.exponent, parts.small)
    ]

-- no bit is set
pub ieee_none : (m B bits q : ℕ) → 1 ≤ B → bits ≡ 0 → (Some 0 ≡ Some q) ↔ IsIeee m B bits q
ieee_none m B bits zero some none = (λ e. none, λ p. refl)
ieee_none m B bits (suc q) some none = (
  λ e. absurd (cc),
  λ p.
      let product : 1 * 2 ^ m ≤ (B + p.0) * 2 ^ m = mul-le-mul_right {m = 1} {n = B + p.0} (2 ^ m) (omega (arith, some)) in
      absurd (omega (arith, p.1.bits_are, none, product, pow_pos m)),
)

-- the quotient with the hidden bit
pub ieee_is : (m B bits q top bottom : ℕ) → 23 ≤ m → q < 2 ^ 24 → bits ≢ 0 → B ≤ bits / 2 ^ m → bits / 2 ^ m < B + 24
    → top ≡ 2 ^ m + bits % 2 ^ m → bottom ≡ 2 ^ (m - (bits / 2 ^ m - B)) → IsQuotient top bottom q ↔ IsIeee m B bits q
ieee_is m B bits zero top bottom large most some low high t b =
    (λ p. absurd (omega (arith, p.exact, t, pow_pos m)), λ p. absurd (some p))
ieee_is m B bits (suc q) top bottom large most some low high t b = (
  λ p. (
    bits / 2 ^ m - B,
    quotient_power m B bits (suc q) (bits / 2 ^ m - B) (omega (arith, large, high)) (omega (arith, low)) (sym t ∙ (p.exact ∙ ap (λ n. suc q * n) b)),
  ),
  λ p.
      let parts = power_parts m B bits (suc q) p.0 large most p.1 in
      let same : bits / 2 ^ m - B ≡ p.0 = omega (arith, parts.exponent) in
      let power : bottom ≡ 2 ^ (m - p.0) = b ∙ ap (λ e. 2 ^ (m - e)) same in
      record {
        some = λ none. omega (arith, none, power, pow_pos (m - p.0));
        exact = t ∙ (parts.product ∙ ap (λ n. suc q * n) (sym power));
      },
)

-- a real of kind 0 or 1 is its number over 1
pub whole_kind : (real : Real) (kind q : ℕ) → real.kind ≡ kind → kind < 2 → IsQuotient real.a 1 q ↔ IsMagnitude (form_of real.kind) real q
whole_kind real zero q is h = rw is (λ p. p, λ p. p)
whole_kind real (suc zero) q is h = rw is (λ p. p, λ p. p)
whole_kind real (suc (suc kind)) q is h = absurd (omega (arith, h))
