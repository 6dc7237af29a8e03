-- Signed numbers and their codes, which have the sign in bit 0.
use Rattle.std.proofs.Common.{◌≡◌, ℕ, suc, ◌+◌, ◌*◌, ◌/◌, ◌%◌, ◌^◌, ◌<◌, ◌≤◌, ℤ, pos, negsuc, neg_ℤ, unsigned_abs, refl, arith, inl, inr, ap, sym, ◌∙◌}
use Rattle.std.proofs.lemmas.Int.{ints}
use Rattle.std.proofs.lemmas.Bool.{cases_lt}
use Rattle.std.proofs.lemmas.Bool.Decides.{nat_tests}
use Rattle.oas_lex.specs.Spelling.{unsigned_text, signed_code, signed_text}
use Rattle.oas_lex.specs.Numbers.{IsUnsigned, IsSigned, signed_value}
use Rattle.oas_lex.proofs.Groups.{unsigned_spells}

value_even : (code : ℕ) → code % 2 ≡ 0 → signed_value code ≡ pos (code / 2)
value_even code h = grind (arith, nat_tests)

value_odd : (code : ℕ) → code % 2 ≡ 1 → signed_value code ≡ neg_ℤ (pos (code / 2))
value_odd code h = grind (arith, nat_tests)

half_odd : (n : ℕ) → (2 * (n + 1) + 1) / 2 ≡ suc n
half_odd n = omega arith

-- the code of a number gives the number back
pub value_of_code : (z : ℤ) → signed_value (signed_code z) ≡ z
value_of_code (pos n) = let half : 2 * n / 2 ≡ n = omega arith in value_even (2 * n) (omega arith) ∙ ap pos half
value_of_code (negsuc n) =
    let turned : neg_ℤ (pos ((2 * (n + 1) + 1) / 2)) ≡ negsuc n = rw (half_odd n) refl in
    value_odd (2 * (n + 1) + 1) (omega arith) ∙ turned

pub code_below : (z : ℤ) → unsigned_abs z < 2 ^ 62 → signed_code z < 2 ^ 63
code_below (pos n) h = omega arith
code_below (negsuc n) h = omega arith

-- two numbers of one code are equal
pub code_names : (y z : ℤ) → signed_code y ≡ signed_code z → y ≡ z
code_names y z e = sym (value_of_code y) ∙ (ap signed_value e ∙ value_of_code z)

pub signed_spells : (z : ℤ) → unsigned_abs z < 2 ^ 62 → IsSigned (signed_text z) z
signed_spells z h =
    let spells : IsUnsigned (unsigned_text (signed_code z)) (signed_code z) = unsigned_spells (signed_code z) (code_below z h) in
    record { whole = spells.whole; value = ap signed_value spells.value ∙ value_of_code z }

-- the code of a number is no greater than any code that has the number as its value
least_even : (code : ℕ) (z : ℤ) → code % 2 ≡ 0 → pos (code / 2) ≡ z → signed_code z ≤ code
least_even code (pos n) h e = let half : code / 2 ≡ n = omega (arith, ints) in omega arith
least_even code (negsuc n) h e = absurd (cc)

least_odd : (code : ℕ) (z : ℤ) → code % 2 ≡ 1 → neg_ℤ (pos (code / 2)) ≡ z → signed_code z ≤ code
least_odd code (pos n) h e = let half : n ≡ 0 = omega (arith, ints) in omega arith
least_odd code (negsuc n) h e = let half : code / 2 ≡ n + 1 = omega (arith, ints) in omega arith

pub least_code : (code : ℕ) (z : ℤ) → signed_value code ≡ z → signed_code z ≤ code
least_code code z e =
    elim (cases_lt (code % 2) 1) [
      | inl even ↦ let none : code % 2 ≡ 0 = omega arith in least_even code z none (sym (value_even code none) ∙ e)
      | inr odd ↦ let one : code % 2 ≡ 1 = omega arith in least_odd code z one (sym (value_odd code one) ∙ e)
    ]
