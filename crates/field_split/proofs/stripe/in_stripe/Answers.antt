use Rattle.std.proofs.Common.{rules, arith, ◌<ℤ◌, FitsSigned, w64}
use Rattle.std.proofs.lemmas.Int.{ints, to_z-of_z}
use Rattle.field_split.proofs.PartAnswers.{rows_taken}
use Rattle.field_split.proofs.stripe.in_stripe.Goals as goal

pub invariant_of-result : goal.invariant_of-result
invariant_of-result c =
    let r0 : FitsSigned w64 c.rows-rows.result.y0 = search rules in
    let r1 : FitsSigned w64 c.rows-rows.result.y1 = search rules in
    let y0 : FitsSigned w64 c.y0.result = search rules in
    let y1 : FitsSigned w64 c.y1.result = search rules in
    let low : FitsSigned w64 c.max-y0.result = search rules in
    let high : FitsSigned w64 c.min-y1.result = search rules in
    let a = simp to_z-of_z at c.max-y0.ensures.value in
    let b = simp to_z-of_z at c.min-y1.ensures.value in
    let some : c.max-y0.result <ℤ c.min-y1.result = omega (arith, ints, c.if-y1-y0.false) in
    let taken = rows_taken c.args.stripe.size c.args.stripe.number c.args.shot.now _ _ _ _ _ _ _ c.rows-rows.ensures
    c.y0.ensures.value c.y1.ensures.value c.left.ensures.value c.right.ensures.value a b in
    record { shot = simp to_z-of_z (taken.1 c.y0.ensures.shot some) }

pub returns-clause-some : goal.returns-clause-some
returns-clause-some c =
    let r0 : FitsSigned w64 c.rows-rows.result.y0 = search rules in
    let r1 : FitsSigned w64 c.rows-rows.result.y1 = search rules in
    let y0 : FitsSigned w64 c.y0.result = search rules in
    let y1 : FitsSigned w64 c.y1.result = search rules in
    let low : FitsSigned w64 c.max-y0.result = search rules in
    let high : FitsSigned w64 c.min-y1.result = search rules in
    let a = simp to_z-of_z at c.max-y0.ensures.value in
    let b = simp to_z-of_z at c.min-y1.ensures.value in
    let taken = rows_taken c.args.stripe.size c.args.stripe.number c.args.shot.now _ _ _ _ _ _ _ c.rows-rows.ensures
    c.y0.ensures.value c.y1.ensures.value c.left.ensures.value c.right.ensures.value a b in
    simp to_z-of_z taken.0
