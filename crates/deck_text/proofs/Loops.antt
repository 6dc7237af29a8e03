-- Steps over the statements before a line.
use Rattle.std.proofs.Common.{◌≡◌, ℕ, true, false, not, List, ◌∷◌, Some, refl}
use Rattle.std.specs.Prelude.{find}
use Rattle.deck_text.specs.Statements.{Said}
use Rattle.deck_text.specs.Rules.{is_defined}

-- the first of two operands isn't defined
pub first_unknown : (before : List Said) (a : List ℕ) (rest : List (List ℕ)) → is_defined before a ≡ false
    → find (λ x. not (is_defined before x)) (a ∷ rest) ≡ Some a
first_unknown before a rest e = rw e refl

pub next_unknown : (before : List Said) (a : List ℕ) (rest : List (List ℕ)) → is_defined before a ≡ true
    → find (λ x. not (is_defined before x)) (a ∷ rest) ≡ find (λ x. not (is_defined before x)) rest
next_unknown before a rest e = rw e refl
