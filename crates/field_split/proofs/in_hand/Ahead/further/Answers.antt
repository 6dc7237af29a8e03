use Rattle.std.proofs.Common.{rules, arith, refl, ◌-ℤ◌, FitsSigned, w64}
use Rattle.std.proofs.lemmas.Int.{ints, to_z-of_z}
use Rattle.field_split.specs.Pieces.{shape_of}
use Rattle.field_split.proofs.Numbers.{fits_by}
use Rattle.field_split.proofs.HandLemmas.{fields_order, fields_few}
use Rattle.field_split.proofs.in_hand.Ahead.further.Goals as goal

pub overflow_sub-result : goal.overflow_sub-result
overflow_sub-result c =
    let first : FitsSigned w64 c.first_field.result = search rules in
    let last : FitsSigned w64 c.last_field.result = search rules in
    let sized = c.args.stripe.sized in
    let order = fields_order c.args.stripe.size sized (shape_of c.args.part) c.args.part.shot in
    let few = fields_few c.args.stripe.size sized (shape_of c.args.part) c.args.part.shot c.requires in
    let gap : FitsSigned w64 (c.last_field.result -ℤ c.first_field.result) = rw
    (c.last_field.ensures, c.first_field.ensures)
    (fits_by _ (omega (arith, ints, order)) (omega (arith, ints, few))) in
    simp to_z-of_z gap

pub returns-clause-value : goal.returns-clause-value
returns-clause-value c =
    let first : FitsSigned w64 c.first_field.result = search rules in
    let last : FitsSigned w64 c.last_field.result = search rules in
    let sized = c.args.stripe.sized in
    let order = fields_order c.args.stripe.size sized (shape_of c.args.part) c.args.part.shot in
    let few = fields_few c.args.stripe.size sized (shape_of c.args.part) c.args.part.shot c.requires in
    let gap : FitsSigned w64 (c.last_field.result -ℤ c.first_field.result) = rw
    (c.last_field.ensures, c.first_field.ensures)
    (fits_by _ (omega (arith, ints, order)) (omega (arith, ints, few))) in
    simp to_z-of_z (rw (c.last_field.ensures, c.first_field.ensures) refl)

pub returns-clause-low : goal.returns-clause-low
returns-clause-low c =
    let first : FitsSigned w64 c.first_field.result = search rules in
    let last : FitsSigned w64 c.last_field.result = search rules in
    let sized = c.args.stripe.sized in
    let order = fields_order c.args.stripe.size sized (shape_of c.args.part) c.args.part.shot in
    let few = fields_few c.args.stripe.size sized (shape_of c.args.part) c.args.part.shot c.requires in
    let gap : FitsSigned w64 (c.last_field.result -ℤ c.first_field.result) = rw
    (c.last_field.ensures, c.first_field.ensures)
    (fits_by _ (omega (arith, ints, order)) (omega (arith, ints, few))) in
    simp to_z-of_z (rw (c.last_field.ensures, c.first_field.ensures) (omega (arith, ints, order)))

pub returns-clause-high : goal.returns-clause-high
returns-clause-high c =
    let first : FitsSigned w64 c.first_field.result = search rules in
    let last : FitsSigned w64 c.last_field.result = search rules in
    let sized = c.args.stripe.sized in
    let order = fields_order c.args.stripe.size sized (shape_of c.args.part) c.args.part.shot in
    let few = fields_few c.args.stripe.size sized (shape_of c.args.part) c.args.part.shot c.requires in
    let gap : FitsSigned w64 (c.last_field.result -ℤ c.first_field.result) = rw
    (c.last_field.ensures, c.first_field.ensures)
    (fits_by _ (omega (arith, ints, order)) (omega (arith, ints, few))) in
    simp to_z-of_z (rw (c.last_field.ensures, c.first_field.ensures) few)
