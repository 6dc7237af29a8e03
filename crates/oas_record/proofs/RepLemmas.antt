-- What stands of a repetition, over plain numbers.
use Rattle.std.proofs.Common.{◌≡◌, ℕ, suc, ◌+◌, List, [], ◌∷◌, map, Some, inr, refl, ap, arith}
use Rattle.oas_lex.specs.Numbers.{HasUnsigned}
use Rattle.oas_record.specs.Lists.{HasNumbers}
use Rattle.oas_record.specs.Repetitions.{RepRow, AfterDims, RepetitionRowFails}
use Rattle.oas_record.specs.declared.faults.RecordBad.{RecordBad}

pub one : (bytes : List ℕ) (at n next : ℕ) → HasUnsigned bytes at n next → HasNumbers bytes at (n ∷ []) next
one bytes at n next h = (next, h, refl)

pub two : (bytes : List ℕ) (at n mid m next : ℕ) → HasUnsigned bytes at n mid → HasUnsigned bytes mid m next → HasNumbers bytes at (n ∷ m ∷ []) next
two bytes at n mid m next h k = (mid, h, (next, k, refl))

pub dim : (d s : ℕ) → d ≡ s + 2 → d ∷ [] ≡ map (λ n. n + 2) (s ∷ [])
dim d s h = ap (λ (n : ℕ). n ∷ []) h

pub dims : (d s e t : ℕ) → d ≡ s + 2 → e ≡ t + 2 → d ∷ e ∷ [] ≡ map (λ n. n + 2) (s ∷ t ∷ [])
dims d s e t h k = rw (h, k) refl

-- what follows one dimension fails
pub fails_after : (r : RepRow) (bytes : List ℕ) (at s a : ℕ) (bad : RecordBad) → 1 ≡ r.dims → HasUnsigned bytes at s a
    → AfterDims r (s ∷ []) bytes a bad → RepetitionRowFails (Some r) bytes at bad
fails_after r bytes at s a bad size h f = inr (s ∷ [], a, (size, one bytes at s a h), f)

-- what follows two dimensions fails
pub fails_after_two : (r : RepRow) (bytes : List ℕ) (at s mid t a : ℕ) (bad : RecordBad) → 2 ≡ r.dims
    → HasUnsigned bytes at s mid → HasUnsigned bytes mid t a → AfterDims r (s ∷ t ∷ []) bytes a bad
    → RepetitionRowFails (Some r) bytes at bad
fails_after_two r bytes at s mid t a bad size h k f = inr (s ∷ t ∷ [], a, (size, two bytes at s mid t a h k), f)

-- one fewer than a dimension is one more than what is stored of it
pub fewer : (s : ℕ) → s + 1 ≡ 0 + (s + 1)
fewer s = omega arith

pub one_and_fewer : (s : ℕ) → suc (s + 1) ≡ 1 + (s + 1)
one_and_fewer s = omega arith
