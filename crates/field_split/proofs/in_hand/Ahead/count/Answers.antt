use Rattle.std.proofs.Common.{rules, arith, FitsSigned, w64}
use Rattle.std.proofs.lemmas.Int.{to_z-of_z}
use Rattle.field_split.specs.Pieces.{shape_of}
use Rattle.field_split.proofs.HandLemmas.{number_is, count_abs, count_small}
use Rattle.field_split.proofs.in_hand.Ahead.count.Goals as goal

pub returns-clause-value : goal.returns-clause-value
returns-clause-value c =
    let further : FitsSigned w64 c.further.result = search rules in
    let number = number_is c.args.stripe.size c.args.stripe.sized (shape_of c.args.part) c.args.part.shot in
    let same = count_abs _ _ c.further.ensures.low c.further.ensures.value in
    simp to_z-of_z (omega (arith, number, same))

pub returns-clause-few : goal.returns-clause-few
returns-clause-few c =
    let further : FitsSigned w64 c.further.result = search rules in
    let few = count_small c.further.result c.further.ensures.low c.further.ensures.high in
    simp to_z-of_z few
