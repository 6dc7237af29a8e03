-- A rule's answers against a test.
use Rattle.std.proofs.Common.{ℤ, pos, negsuc, ◌≡◌, Bool, true, false, IsTrue, refl, sym, FitsSigned, w64, arith}
use Rattle.std.specs.Prelude.{◌↔◌}
use Rattle.std.proofs.lemmas.Int.{ints}
use Rattle.scan_line.specs.Rules.{IsWinding, Takes}
use Rattle.active_lines.specs.declared.item.Windings.{Windings}
use Rattle.plane_sweep.specs.RuleTests.{IsTest}

-- a number of 64 bits may be a winding
pub short_winding : (w : ℤ) → FitsSigned w64 w → IsWinding w
short_winding (pos n) f = let fits = f.sfits in record { low = omega (arith, ints); high = omega (arith, ints) }
short_winding (negsuc n) f = let fits = f.sfits in record { low = omega (arith, ints); high = omega (arith, ints) }

same_answer : (x y : Bool) → (IsTrue x → y ≡ true) → (y ≡ true → IsTrue x) → x ≡ y
same_answer true y to back = sym (to refl)
same_answer false true to back = absurd (let h : false ≡ true = back refl in let clash : ⊥ = cc in clash)
same_answer false false to back = refl

pub test_answers : (post : ℤ → ℤ → Bool → Type 0) (w : Windings) (answer : Bool) → IsWinding w.a → IsWinding w.b → IsTrue answer ↔ Takes post w.a w.b
    → (test : Windings → Bool) → IsTest post test
    → answer ≡ test w
test_answers post w answer a b says test is = same_answer answer (test w) (λ h. (is w a b).0 (says.0 h)) (λ h. says.1 ((is w a b).1 h))
