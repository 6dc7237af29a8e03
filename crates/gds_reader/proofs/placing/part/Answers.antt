use Rattle.std.proofs.Common.{rules, FitsSigned, w64, subst, sym}
use Rattle.std.specs.Prelude.{unsigned_abs, pos, int_lt}
use Rattle.std.proofs.lemmas.Int.{to_z-of_z}
use Rattle.gds_reader.specs.Steppings.{IsEvenPart, IsPartOf}
use Rattle.gds_reader.proofs.placing.part.Goals as goal
use Rattle.gds_reader.proofs.StepLemmas.{part_is, no_part, below_zero, not_below_zero}

pub returns-in-None-clause-none : goal.returns-in-None-clause-none
returns-in-None-clause-none c =
    let fits : FitsSigned w64 c.args.way = search rules in
    let value = simp to_z-of_z at c.unsigned_abs.ensures.value in
    no_part c.args.way c.args.count (λ size p. c.in-None.ensures.none size (subst (λ n. IsEvenPart c.args.count n size) (sym value) p))

pub returns-in-Some-clause-part : goal.returns-in-Some-clause-part
returns-in-Some-clause-part c =
    let fits : FitsSigned w64 c.args.way = search rules in
    let value = simp to_z-of_z at c.unsigned_abs.ensures.value in
    let sign = simp to_z-of_z at c.with_sign.ensures in
    let even : IsEvenPart c.args.count (unsigned_abs c.args.way) c.in-Some.size = subst
    (λ n. IsEvenPart c.args.count n c.in-Some.size) value c.in-Some.ensures.part in
    let step = part_is c.args.way c.args.count c.in-Some.size (int_lt c.args.way (pos 0)) even (below_zero c.args.way) (not_below_zero c.args.way) in
    let result : FitsSigned w64 c.with_sign.result = search rules in
    simp to_z-of_z (subst (IsPartOf c.args.count c.args.way) (sym sign) step)
