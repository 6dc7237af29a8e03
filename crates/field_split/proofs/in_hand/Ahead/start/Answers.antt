use Rattle.std.proofs.Common.{rules, arith, refl, ◌*ℤ◌, FitsSigned, w64}
use Rattle.std.proofs.lemmas.Int.{ints, to_z-of_z}
use Rattle.field_split.specs.Pieces.{shape_of}
use Rattle.field_split.proofs.Numbers.{fits_by}
use Rattle.field_split.proofs.HandLemmas.{start_low, start_high}
use Rattle.field_split.proofs.in_hand.Ahead.start.Goals as goal

pub overflow_mul-result : goal.overflow_mul-result
overflow_mul-result c =
    let first : FitsSigned w64 c.first_field.result = search rules in
    let size : FitsSigned w64 c.args.stripe.size = search rules in
    let sized = c.args.stripe.sized in
    let low = start_low c.args.stripe.size sized (shape_of c.args.part) c.args.part.shot in
    let high = start_high c.args.stripe.size sized (shape_of c.args.part) c.args.part.shot in
    let start : FitsSigned w64 (c.first_field.result *ℤ c.args.stripe.size) = rw c.first_field.ensures
    (fits_by _ (omega (arith, ints, low)) (omega (arith, ints, high))) in
    simp to_z-of_z start

pub returns-clause-value : goal.returns-clause-value
returns-clause-value c =
    let first : FitsSigned w64 c.first_field.result = search rules in
    let size : FitsSigned w64 c.args.stripe.size = search rules in
    let sized = c.args.stripe.sized in
    let low = start_low c.args.stripe.size sized (shape_of c.args.part) c.args.part.shot in
    let high = start_high c.args.stripe.size sized (shape_of c.args.part) c.args.part.shot in
    let start : FitsSigned w64 (c.first_field.result *ℤ c.args.stripe.size) = rw c.first_field.ensures
    (fits_by _ (omega (arith, ints, low)) (omega (arith, ints, high))) in
    simp to_z-of_z (rw c.first_field.ensures refl)

pub returns-clause-low : goal.returns-clause-low
returns-clause-low c =
    let first : FitsSigned w64 c.first_field.result = search rules in
    let size : FitsSigned w64 c.args.stripe.size = search rules in
    let sized = c.args.stripe.sized in
    let low = start_low c.args.stripe.size sized (shape_of c.args.part) c.args.part.shot in
    let high = start_high c.args.stripe.size sized (shape_of c.args.part) c.args.part.shot in
    let start : FitsSigned w64 (c.first_field.result *ℤ c.args.stripe.size) = rw c.first_field.ensures
    (fits_by _ (omega (arith, ints, low)) (omega (arith, ints, high))) in
    simp to_z-of_z (rw c.first_field.ensures low)

pub returns-clause-high : goal.returns-clause-high
returns-clause-high c =
    let first : FitsSigned w64 c.first_field.result = search rules in
    let size : FitsSigned w64 c.args.stripe.size = search rules in
    let sized = c.args.stripe.sized in
    let low = start_low c.args.stripe.size sized (shape_of c.args.part) c.args.part.shot in
    let high = start_high c.args.stripe.size sized (shape_of c.args.part) c.args.part.shot in
    let start : FitsSigned w64 (c.first_field.result *ℤ c.args.stripe.size) = rw c.first_field.ensures
    (fits_by _ (omega (arith, ints, low)) (omega (arith, ints, high))) in
    simp to_z-of_z (rw c.first_field.ensures high)
