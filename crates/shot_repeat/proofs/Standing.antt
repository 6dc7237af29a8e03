-- What stands at a place is read.
use Rattle.std.proofs.Common.{◌≡◌, ℕ, ℤ, ◌+ℤ◌, ◌-ℤ◌, ◌≤◌, ◌<◌, ◌^◌, unsigned_abs, true, is_some, List, ◌∷◌, ◌++◌, drop}
use Rattle.std.proofs.Common.{Option, Some, None, refl, arith, ap, sym, ◌∙◌, FitsSigned, w64}
use Rattle.std.proofs.lemmas.Int.{ints}
use Rattle.shot_repeat.specs.Records.{IsNarrowRepetition, step_code, steps_text, repetition_text}
use Rattle.oas_lex.specs.Spelling.{unsigned_text, signed_text}
use Rattle.shot_repeat.specs.declared.record.Repetition.{Repetition}
use Rattle.shot_repeat.proofs.Unique.{steps_opens}

-- the numbers of a repetition that is written
pub some_repetition : (field : Option Repetition) (rest after : List ℕ) → IsNarrowRepetition field
    → true ≡ is_some field → rest ≡ repetition_text field ++ after
    → (p : Repetition) × IsNarrowRepetition (Some p) × (field ≡ Some p) × (rest ≡ 9 ∷ (steps_text p ++ after))
some_repetition None rest after narrow there e = absurd (cc)
some_repetition (Some p) rest after narrow there e = (p, narrow, refl, e)

pub spelled_steps : (p : Repetition) (bytes : List ℕ) (at a b c : ℕ)
    → drop at bytes ≡ unsigned_text p.more ++ drop a bytes
    → drop a bytes ≡ unsigned_text (step_code p.x) ++ drop b bytes → drop b bytes ≡ signed_text p.y ++ drop c bytes
    → drop at bytes ≡ steps_text p ++ drop c bytes
spelled_steps p bytes at a b c ea eb ec =
    ea ∙ (ap (λ (t : List ℕ). unsigned_text p.more ++ t) (eb ∙ ap (λ (t : List ℕ). unsigned_text (step_code p.x) ++ t) ec) ∙ sym (steps_opens p (drop c bytes)))

-- ---- sums that fit

pub fits_sum : (a b : ℤ) → unsigned_abs a ≤ 2 ^ 46 → unsigned_abs b < 2 ^ 62 → FitsSigned w64 (a +ℤ b)
fits_sum a b h g = omega (arith, ints)

pub fits_difference : (a b : ℤ) → unsigned_abs a ≤ 2 ^ 46 → unsigned_abs b ≤ 2 ^ 46 → FitsSigned w64 (a -ℤ b)
fits_difference a b h g = omega (arith, ints)
