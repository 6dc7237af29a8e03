use Rattle.std.proofs.Common.{rules, subst, sym, FitsSigned, w64}
use Rattle.std.specs.Prelude.{IfSome, IfNone, ◌≡◌}
use Rattle.std.proofs.lemmas.Int.{to_z-of_z}
use Rattle.layout_model.proofs.ForCallers.{factor_some, factor_bounds, factor_none}
use Rattle.oas_lex.specs.Reals.{IsWholeOasisReal}
use Rattle.oas_reader.specs.Reals.{IsOasisFactor, factor_of}
use Rattle.oas_reader.proofs.RealLemmas.{one_real, never_factor}
use Rattle.oas_reader.proofs.placing.factor_of.Goals as goal

pub returns-in-Some-real_whole-clause-some : goal.returns-in-Some-real_whole-clause-some
returns-in-Some-real_whole-clause-some c =
    let fits : FitsSigned w64 c.in-Some-real_whole.n = search rules in
    let one = one_real c.in-Some.real c.real_whole.result c.real_whole.ensures in
    subst (λ m. IfSome c.factor_in.result (λ f. IsOasisFactor m × (f ≡ factor_of m))) (sym c.in-Some.is)
    (factor_some (IsWholeOasisReal c.in-Some.real) _ _ one c.in-Some-real_whole.n c.factor_in.result
    ((c.real_whole.ensures c.in-Some-real_whole.n).0 c.in-Some-real_whole.is) (simp to_z-of_z at c.factor_in.ensures.some))

pub returns-in-Some-real_whole-clause-bounds : goal.returns-in-Some-real_whole-clause-bounds
returns-in-Some-real_whole-clause-bounds c = factor_bounds _ c.factor_in.result c.factor_in.ensures.some

pub returns-in-Some-real_whole-clause-none : goal.returns-in-Some-real_whole-clause-none
returns-in-Some-real_whole-clause-none c =
    let fits : FitsSigned w64 c.in-Some-real_whole.n = search rules in
    let one = one_real c.in-Some.real c.real_whole.result c.real_whole.ensures in
    subst (λ m. IfNone c.factor_in.result (IsOasisFactor m → ⊥)) (sym c.in-Some.is)
    (factor_none (IsWholeOasisReal c.in-Some.real) _ _ one c.in-Some-real_whole.n c.factor_in.result
    ((c.real_whole.ensures c.in-Some-real_whole.n).0 c.in-Some-real_whole.is) (simp to_z-of_z at c.factor_in.ensures.none))

pub returns-in-None-clause-none : goal.returns-in-None-clause-none
returns-in-None-clause-none c =
    subst (λ m. IsOasisFactor m → ⊥) (sym c.in-Some.is) (never_factor c.in-Some.real c.real_whole.result c.real_whole.ensures c.in-None.is)
