-- The six numbers of a shot's line, put one after another.
use Rattle.std.proofs.Common.{◌≡◌, ℕ, ℤ, List, [], ◌∷◌, ◌++◌, ap, ◌∙◌, append_assoc, FitsSigned, w64, to_z, of_z, to_z-of_z}
use Rattle.std.specs.Fmt.{signed_decimal}

-- a number that was put is the one that was meant
pub field : (before after : List ℕ) (number meant : ℤ) (byte : ℕ) → FitsSigned w64 number → number ≡ meant
    → after ≡ before ++ (signed_decimal (to_z w64 (of_z w64 number)) ++ byte ∷ [])
    → after ≡ before ++ (signed_decimal meant ++ byte ∷ [])
field before after number meant byte fits is e =
    e ∙ ap (λ (z : ℤ). before ++ (signed_decimal z ++ byte ∷ [])) (to_z-of_z fits ∙ is)

-- six fields make a line
pub six_fields : (b₀ b₁ b₂ b₃ b₄ b₅ b₆ n₁ n₂ n₃ n₄ n₅ n₆ : List ℕ) → b₁ ≡ b₀ ++ (n₁ ++ 32 ∷ [])
    → b₂ ≡ b₁ ++ (n₂ ++ 32 ∷ []) → b₃ ≡ b₂ ++ (n₃ ++ 32 ∷ []) → b₄ ≡ b₃ ++ (n₄ ++ 32 ∷ []) → b₅ ≡ b₄ ++ (n₅ ++ 32 ∷ [])
    → b₆ ≡ b₅ ++ (n₆ ++ 10 ∷ [])
    → b₆ ≡ b₀ ++ (n₁ ++ 32 ∷ [] ++ n₂ ++ 32 ∷ [] ++ n₃ ++ 32 ∷ [] ++ n₄ ++ 32 ∷ [] ++ n₅ ++ 32 ∷ [] ++ n₆ ++ 10 ∷ [])
six_fields b₀ b₁ b₂ b₃ b₄ b₅ b₆ n₁ n₂ n₃ n₄ n₅ n₆ e₁ e₂ e₃ e₄ e₅ e₆ = rw (e₆, e₅, e₄, e₃, e₂, e₁) (simp append_assoc)
