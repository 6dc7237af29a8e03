use Rattle.std.proofs.Common.{rules, subst, sym, FitsSigned, w64}
use Rattle.std.specs.Prelude.{IfSome, IfNone, ◌≡◌}
use Rattle.std.proofs.lemmas.Int.{to_z-of_z}
use Rattle.layout_model.proofs.ForCallers.{turns_some, turns_few, turns_none}
use Rattle.oas_lex.specs.Reals.{IsWholeOasisReal}
use Rattle.oas_reader.specs.Reals.{IsOasisAngle, turns_of}
use Rattle.oas_reader.proofs.RealLemmas.{one_real, never_turn}
use Rattle.oas_reader.proofs.placing.turns_of.Goals as goal

pub returns-in-Some-real_whole-clause-some : goal.returns-in-Some-real_whole-clause-some
returns-in-Some-real_whole-clause-some c =
    let fits : FitsSigned w64 c.in-Some-real_whole.degrees = search rules in
    let one = one_real c.in-Some.real c.real_whole.result c.real_whole.ensures in
    subst (λ m. IfSome c.turns_in.result (λ t. IsOasisAngle m × (t ≡ turns_of m))) (sym c.in-Some.is)
    (turns_some (IsWholeOasisReal c.in-Some.real) _ _ one c.in-Some-real_whole.degrees c.turns_in.result
    ((c.real_whole.ensures c.in-Some-real_whole.degrees).0 c.in-Some-real_whole.is) (simp to_z-of_z at c.turns_in.ensures.some))

pub returns-in-Some-real_whole-clause-few : goal.returns-in-Some-real_whole-clause-few
returns-in-Some-real_whole-clause-few c = turns_few _ c.turns_in.result c.turns_in.ensures.some

pub returns-in-Some-real_whole-clause-none : goal.returns-in-Some-real_whole-clause-none
returns-in-Some-real_whole-clause-none c =
    let fits : FitsSigned w64 c.in-Some-real_whole.degrees = search rules in
    let one = one_real c.in-Some.real c.real_whole.result c.real_whole.ensures in
    subst (λ m. IfNone c.turns_in.result (IsOasisAngle m → ⊥)) (sym c.in-Some.is)
    (turns_none (IsWholeOasisReal c.in-Some.real) _ _ one c.in-Some-real_whole.degrees c.turns_in.result
    ((c.real_whole.ensures c.in-Some-real_whole.degrees).0 c.in-Some-real_whole.is) (simp to_z-of_z at c.turns_in.ensures.none))

pub returns-in-None-clause-none : goal.returns-in-None-clause-none
returns-in-None-clause-none c =
    subst (λ m. IsOasisAngle m → ⊥) (sym c.in-Some.is) (never_turn c.in-Some.real c.real_whole.result c.real_whole.ensures c.in-None.is)
