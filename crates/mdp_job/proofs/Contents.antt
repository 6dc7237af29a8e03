-- What names hold, and what changes.
use Rattle.std.proofs.Common.{◌≡◌, ℕ, ◌≤◌, ◌<◌, List, [], length, sym, subst, ◌∙◌, arith, Some, None, Option, refl}
use Rattle.std.specs.Prelude.{IsSomeAnd}
use Rattle.depot.specs.Content.{Content, held_as, IsLongerThan, ChangesLeftOnly, with_left}

-- a name holds one list of bytes
pub one_content : (o : Option (List ℕ)) (x y : List ℕ) → o ≡ Some x → o ≡ Some y → x ≡ y
one_content o x y e f = let h : Some x ≡ Some y = sym e ∙ f in cc

pub there : (o : Option (List ℕ)) (x : List ℕ) → o ≡ Some x → o ≡ None → ⊥
there o x e f = let h : Some x ≡ None = sym e ∙ f in let bad : ⊥ = cc in bad

pub too_long : (limit : ℕ) (c : Content) (name bytes : List ℕ) → IsLongerThan limit c name → held_as c name ≡ Some bytes → length bytes ≤ limit → ⊥
too_long limit c name bytes long held short =
    let more : limit < length bytes = subst (λ o. IsSomeAnd o (λ b. limit < length b)) held long in
    omega (arith, more, short)

pub left_only : (b a : Content) → a ≡ with_left b [] → ChangesLeftOnly b a
left_only b a e = subst (λ (c : Content). c ≡ with_left b c.left) (sym e) refl
