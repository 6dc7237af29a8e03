-- What is said of lines that are put one after another.
use Rattle.std.proofs.Common.{ℕ, ◌≡◌, ℤ, List, [], ◌∷◌, ◌++◌, arith, sym, ap, subst, ◌∙◌, append_assoc, FitsSigned, w64, to_z, of_z, to_z-of_z}
use Rattle.std.proofs.lemmas.List.{append-nil}
use Rattle.std.specs.Fmt.{signed_decimal}
use Rattle.depot.specs.Content.{Content, IsPartSaid}
use Rattle.depot.specs.Printing.{IsSaidButFor}
use Rattle.depot.proofs.ForCallers.{part_held, part_of_longer, said_then}

-- a number that was put is the one that was meant
pub field : (before after : List ℕ) (number : ℤ) (byte : ℕ) → FitsSigned w64 number
    → after ≡ before ++ (signed_decimal (to_z w64 (of_z w64 number)) ++ byte ∷ [])
    → after ≡ before ++ (signed_decimal number ++ byte ∷ [])
field before after number byte fits e = e ∙ ap (λ (z : ℤ). before ++ (signed_decimal z ++ byte ∷ [])) (to_z-of_z fits)

-- three numbers make a line
pub three_fields : (b₀ b₁ b₂ b₃ b₄ n₁ n₂ n₃ : List ℕ) → b₁ ≡ b₀ ++ (n₁ ++ 32 ∷ []) → b₂ ≡ b₁ ++ (n₂ ++ 32 ∷ []) → b₃ ≡ b₂ ++ n₃ → b₄ ≡ b₃ ++ 10 ∷ []
    → b₄ ≡ b₀ ++ (n₁ ++ 32 ∷ [] ++ n₂ ++ 32 ∷ [] ++ n₃ ++ 10 ∷ [])
three_fields b₀ b₁ b₂ b₃ b₄ n₁ n₂ n₃ e₁ e₂ e₃ e₄ = rw (e₄, e₃, e₂, e₁) (simp append_assoc)

-- what was held has been said in part, or all of it, and the rest is held
pub said_on : {old now later : Content} {bytes held rest : List ℕ} → IsSaidButFor old bytes held now
    → IsSaidButFor now held rest later → IsSaidButFor old bytes rest later
said_on {old} {now} {later} {bytes} {held} {rest} p q =
    subst (λ (l : List ℕ). IsSaidButFor old l rest later) (append-nil bytes)
    (said_then [] p (subst (λ (l : List ℕ). IsSaidButFor now l rest later) (sym (append-nil held)) q))

-- what was said but for what is held is a prefix
pub part_said : {old now : Content} {bytes held : List ℕ} → IsSaidButFor old bytes held now → IsPartSaid old bytes now
part_said {old} {now} {bytes} {held} p =
    part_held now p (0, omega arith, sym (ap (λ (said : List ℕ). record now { said = said }) (append-nil now.said)))

-- a prefix of the first of three pieces, of the first two
pub part_of_three : (old now : Content) (a b c d : List ℕ) → IsPartSaid old (a ++ b) now → IsPartSaid old (a ++ (b ++ (c ++ d))) now
part_of_three old now a b c d part = subst (λ (l : List ℕ). IsPartSaid old l now) (append_assoc a b (c ++ d)) (part_of_longer old now (a ++ b) (c ++ d) part)

pub part_of_two : (old now : Content) (a b c : List ℕ) → IsPartSaid old (a ++ b) now → IsPartSaid old (a ++ (b ++ c)) now
part_of_two old now a b c part = subst (λ (l : List ℕ). IsPartSaid old l now) (append_assoc a b c) (part_of_longer old now (a ++ b) c part)

pub three_pieces : (a b c d : List ℕ) → ((a ++ b) ++ c) ++ d ≡ a ++ (b ++ (c ++ d))
three_pieces a b c d = simp append_assoc

pub two_pieces : (a b c : List ℕ) → (a ++ b) ++ c ≡ a ++ (b ++ c)
two_pieces a b c = append_assoc a b c
