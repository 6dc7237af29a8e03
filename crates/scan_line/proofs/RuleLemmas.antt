-- What a rule answers.
use Rattle.std.proofs.Common.{ℤ, pos, negsuc, Bool, true, IsTrue, sym, ◌∙◌, subst, FitsSigned, w64, arith}
use Rattle.std.proofs.lemmas.Int.{ints}
use Rattle.std.specs.Prelude.{◌↔◌}
use Rattle.scan_line.specs.Rules.{IsTheAnswer, IsRule, IsWinding, Takes}

-- the rule takes two windings exactly where the answer is true
pub answer_says : (pre : ℤ → ℤ → Type 0) (post : ℤ → ℤ → Bool → Type 0) (a b : ℤ) (answer : Bool) → (due : Bool)
    × IsTheAnswer pre post a b due → post a b answer → IsTrue answer ↔ Takes post a b
answer_says pre post a b answer due h = (λ t. subst (post a b) t h, λ t. due.1.only answer h ∙ sym (due.1.only true t))

-- and leaves a tile that no edge winds round
pub takes_no_nothing : (pre : ℤ → ℤ → Type 0) (post : ℤ → ℤ → Bool → Type 0) → IsRule pre post → Takes post (pos 0) (pos 0) → ⊥
takes_no_nothing pre post h t = let same = h.leaves_nothing.only true t in cc

-- a number of 64 bits may be a winding
pub short_winding : (w : ℤ) → FitsSigned w64 w → IsWinding w
short_winding (pos n) f = let fits = f.sfits in record { low = omega (arith, ints); high = omega (arith, ints) }
short_winding (negsuc n) f = let fits = f.sfits in record { low = omega (arith, ints); high = omega (arith, ints) }
