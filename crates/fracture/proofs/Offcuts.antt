-- Parts that are cut off one after the other: what holds of them by what holds of each cut.
use Rattle.std.proofs.Common.{◌≡◌, ℕ, zero, suc, ◌<◌, ◌≤◌, Bool, true, false, List, [], ◌∷◌, refl, sym, ap, ◌∙◌, arith, subst}
use Rattle.half_grid.specs.Trapezoids.{Trapezoid}
use Rattle.fracture.specs.Cutting.{cut_off}

module _ (fits : Trapezoid → Bool) (part rest : Trapezoid → Trapezoid) where
  -- where it fits, it is the one part
  pub whole : (n : ℕ) (z : Trapezoid) → fits z ≡ true → cut_off fits part rest n z ≡ z ∷ []
  unfolding cut_off
  whole zero z h = refl
  whole (suc n) z h = rw h refl

  -- and else a part is cut off
  pub parted : (n : ℕ) (z : Trapezoid) → fits z ≡ false → cut_off fits part rest (suc n) z ≡ part z ∷ cut_off fits part rest n (rest z)
  unfolding cut_off
  parted n z h = rw h refl

  -- What is left keeps a property, and gets smaller by a number that is known to fit a count of cuts.
  pub record Shrinks (P : Trapezoid → Type 0) (size : Trapezoid → ℕ) : Type 0 where
    pub keeps : (z : Trapezoid) → P z → fits z ≡ false → P (rest z)
    pub falls : (z : Trapezoid) → P z → fits z ≡ false → size (rest z) < size z

  module _ (P : Trapezoid → Type 0) (size : Trapezoid → ℕ) (s : Shrinks P size) where
    fits_at_none : (z : Trapezoid) → P z → size z ≤ 0 → (b : Bool) → fits z ≡ b → fits z ≡ true
    fits_at_none z p n true h = h
    fits_at_none z p n false h = absurd (omega (arith, s.falls z p h))

    -- further cuts change nothing
    one_more_by : (n : ℕ) (z : Trapezoid) → P z → size z ≤ n → (b : Bool) → fits z ≡ b → cut_off fits part rest n z ≡ cut_off fits part rest (suc n) z
    one_more_by n z p k true h = whole n z h ∙ sym (whole (suc n) z h)
    one_more_by zero z p k false h = let yes = fits_at_none z p k _ h in cc
    one_more_by (suc n) z p k false h =
        let less : size (rest z) ≤ n = omega (arith, s.falls z p h, k) in
        parted n z h ∙ ap (λ parts. part z ∷ parts) (one_more_by n (rest z) (s.keeps z p h) less _ refl) ∙ sym (parted (suc n) z h)

    pub one_more : (n : ℕ) (z : Trapezoid) → P z → size z ≤ n → cut_off fits part rest n z ≡ cut_off fits part rest (suc n) z
    one_more n z p k = one_more_by n z p k _ refl

    -- one part is cut off, and what is left is cut on as if anew
    pub first_part : (n : ℕ) (z : Trapezoid) → P z → size z ≤ n → fits z ≡ false → cut_off fits part rest n z ≡ part z ∷ cut_off fits part rest n (rest z)
    first_part n z p k h =
        let less : size (rest z) ≤ n = omega (arith, s.falls z p h, k) in
        one_more n z p k ∙ parted n z h

    -- By cases: what holds of a list of one that fits, and of one more part before a list of which it holds, holds of the parts.
    module _ (Q : Trapezoid → List Trapezoid → Type 0) where
      by_cuts : (one : (z : Trapezoid) → P z → fits z ≡ true → Q z (z ∷ []))
          → (more : (z : Trapezoid) (parts : List Trapezoid) → P z → fits z ≡ false → Q (rest z) parts
          → Q z (part z ∷ parts))
          → (n : ℕ) (z : Trapezoid) → P z → size z ≤ n → (b : Bool) → fits z ≡ b → Q z (cut_off fits part rest n z)
      by_cuts one more n z p k true h = subst (Q z) (sym (whole n z h)) (one z p h)
      by_cuts one more zero z p k false h = let yes = fits_at_none z p k _ h in absurd cc
      by_cuts one more (suc n) z p k false h =
          let less : size (rest z) ≤ n = omega (arith, s.falls z p h, k) in
          subst (Q z) (sym (parted n z h)) (more z _ p h (by_cuts one more n (rest z) (s.keeps z p h) less _ refl))

      pub of_parts : (one : (z : Trapezoid) → P z → fits z ≡ true → Q z (z ∷ []))
          → (more : (z : Trapezoid) (parts : List Trapezoid) → P z → fits z ≡ false → Q (rest z) parts
          → Q z (part z ∷ parts))
          → (n : ℕ) (z : Trapezoid) → P z → size z ≤ n → Q z (cut_off fits part rest n z)
      of_parts one more n z p k = by_cuts one more n z p k _ refl
