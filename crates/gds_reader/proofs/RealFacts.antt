-- Reals that are whole numbers, by their magnitudes.
use Rattle.std.proofs.Common.{◌≡◌, ℕ, zero, suc, ◌*◌, ◌/◌, ◌^◌, ◌<◌, ◌≤◌, refl, ap, ◌∙◌, arith, lit<, Option, Some, None}
use Rattle.std.specs.Prelude.{IfSome, IfNone, IsSome, ℤ, pos, negsuc, ◌*ℤ◌, unsigned_abs}
use Rattle.std.proofs.Math.Nat.{mul-div_cancel}
use Rattle.std.proofs.lemmas.Int.{ints}
use Rattle.gds_record.specs.Reals.{sign_of, exponent_of, fraction_of, with_sign, IsRealValue, IsWholeGdsiiReal}
use Rattle.gds_reader.specs.Values.{magnitude_of, IsGdsiiFactor, IsGdsiiAngle}
use Rattle.layout_model.specs.Turns.{IsTurn, turns_by}
use Rattle.layout_model.proofs.ForCallers.{IsOneReal, factor_some, factor_none, turns_some, turns_none}
use Rattle.gds_record.proofs.ForCallers.{real_value_unique}

at_pos : (sign x n d : ℕ) → with_sign sign x ≡ pos n *ℤ pos d → x ≡ n * d
at_pos zero x n d e = omega (arith, ints)
at_pos (suc sign) zero n d e = omega (arith, ints)
at_pos (suc sign) (suc x) n d e = absurd (cc)

at_neg : (sign x n d : ℕ) → 0 < d → with_sign sign x ≡ negsuc n *ℤ pos d → x ≡ suc n * d
at_neg sign x n zero some e = absurd (omega arith)
at_neg zero x n (suc d) some e = absurd (omega (arith, ints))
at_neg (suc sign) zero n (suc d) some e = absurd (omega (arith, ints))
at_neg (suc sign) (suc x) n (suc d) some e = omega (arith, ints)

neg_sign : (sign x n d : ℕ) → 0 < d → with_sign sign x ≡ negsuc n *ℤ pos d → (s : ℕ) × (sign ≡ suc s)
neg_sign sign x n zero some e = absurd (omega arith)
neg_sign zero x n (suc d) some e = absurd (omega (arith, ints))
neg_sign (suc sign) x n (suc d) some e = (sign, refl)

pos_sign : (sign x n d : ℕ) → 0 < d → with_sign sign x ≡ pos (suc n) *ℤ pos d → sign ≡ 0
pos_sign zero x n d some e = refl
pos_sign (suc sign) x n d some e = absurd (let same : x ≡ suc n * d = at_pos (suc sign) x (suc n) d e in omega (arith, ints))

pub magnitude_pos : (bits n : ℕ) → IsRealValue bits (pos n) → magnitude_of bits ≡ n
unfolding magnitude_of
magnitude_pos bits n v =
    ap (λ x. x / (16 ^ 64 * 2 ^ 56)) (at_pos (sign_of bits) (fraction_of bits * 16 ^ exponent_of bits) n (16 ^ 64 * 2 ^ 56) v)
    ∙ mul-div_cancel n (lit< tt)

pub magnitude_neg : (bits n : ℕ) → IsRealValue bits (negsuc n) → magnitude_of bits ≡ suc n
unfolding magnitude_of
magnitude_neg bits n v =
    ap (λ x. x / (16 ^ 64 * 2 ^ 56)) (at_neg (sign_of bits) (fraction_of bits * 16 ^ exponent_of bits) n (16 ^ 64 * 2 ^ 56) (lit< tt) v)
    ∙ mul-div_cancel (suc n) (lit< tt)

size_of : (bits : ℕ) (z : ℤ) → IsRealValue bits z → magnitude_of bits ≡ unsigned_abs z
size_of bits (pos n) v = magnitude_pos bits n v
size_of bits (negsuc n) v = magnitude_neg bits n v

one_real : (bits : ℕ) → IsOneReal (IsWholeGdsiiReal bits) (sign_of bits) (magnitude_of bits)
one_real bits = record {
  one = λ z w a b. real_value_unique bits z w a.value b.value;
  size_is = λ z is. size_of bits z is.value;
  up = λ n is. pos_sign (sign_of bits) (fraction_of bits * 16 ^ exponent_of bits) n (16 ^ 64 * 2 ^ 56) (lit< tt) is.value;
  down = λ n is. neg_sign (sign_of bits) (fraction_of bits * 16 ^ exponent_of bits) n (16 ^ 64 * 2 ^ 56) (lit< tt) is.value;
}

both : (r : Option ℕ) (Q : Type 0) (P : ℕ → Type 0) → IfSome r (λ n. Q × P n) → IfNone r (Q → ⊥) → (IsSome r → Q) × (Q → IsSome r)
both None Q P some none = (λ s. absurd (cc), λ q. absurd (none q))
both (Some n) Q P some none = (λ s. some.0, λ q. refl)

value : (r : Option ℕ) (Q : Type 0) (P : ℕ → Type 0) → IfSome r (λ n. Q × P n) → IfSome r P
value None Q P some = some
value (Some n) Q P some = some.1

pub factor_both : (bits : ℕ) (z : ℤ) (r : Option ℕ) → IsWholeGdsiiReal bits z → IfSome r (λ f. (z ≡ pos f) × (1 ≤ f) × (f ≤ 16))
    → IfNone r ((f : ℕ) → z ≡ pos f → 1 ≤ f → f ≤ 16 → ⊥) → (IsSome r → IsGdsiiFactor bits) × (IsGdsiiFactor bits → IsSome r)
factor_both bits z r real some none =
    both r (IsGdsiiFactor bits) (λ f. f ≡ magnitude_of bits) (factor_some (IsWholeGdsiiReal bits) (sign_of bits) (magnitude_of bits) (one_real bits) z r real some)
    (factor_none (IsWholeGdsiiReal bits) (sign_of bits) (magnitude_of bits) (one_real bits) z r real none)

pub factor_value : (bits : ℕ) (z : ℤ) (r : Option ℕ) → IsWholeGdsiiReal bits z → IfSome r (λ f. (z ≡ pos f) × (1 ≤ f) × (f ≤ 16))
    → IfSome r (λ f. f ≡ magnitude_of bits)
factor_value bits z r real some =
    value r (IsGdsiiFactor bits) (λ f. f ≡ magnitude_of bits) (factor_some (IsWholeGdsiiReal bits) (sign_of bits) (magnitude_of bits) (one_real bits) z r real some)

pub turns_both : (bits : ℕ) (z : ℤ) (r : Option ℕ) → IsWholeGdsiiReal bits z → IfSome r (λ t. IsTurn z t) → IfNone r ((t : ℕ) → ¬ IsTurn z t)
    → (IsSome r → IsGdsiiAngle bits) × (IsGdsiiAngle bits → IsSome r)
turns_both bits z r real some none =
    both r (IsGdsiiAngle bits) (λ t. t ≡ turns_by (sign_of bits) (magnitude_of bits / 90))
    (turns_some (IsWholeGdsiiReal bits) (sign_of bits) (magnitude_of bits) (one_real bits) z r real some)
    (turns_none (IsWholeGdsiiReal bits) (sign_of bits) (magnitude_of bits) (one_real bits) z r real none)

pub turns_value : (bits : ℕ) (z : ℤ) (r : Option ℕ) → IsWholeGdsiiReal bits z → IfSome r (λ t. IsTurn z t)
    → IfSome r (λ t. t ≡ turns_by (sign_of bits) (magnitude_of bits / 90))
turns_value bits z r real some =
    value r (IsGdsiiAngle bits) (λ t. t ≡ turns_by (sign_of bits) (magnitude_of bits / 90))
    (turns_some (IsWholeGdsiiReal bits) (sign_of bits) (magnitude_of bits) (one_real bits) z r real some)
