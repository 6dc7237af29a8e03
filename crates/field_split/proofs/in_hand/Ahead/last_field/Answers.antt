use Rattle.std.proofs.Common.{rules, refl, FitsSigned, w64}
use Rattle.std.proofs.lemmas.Int.{to_z-of_z}
use Rattle.field_split.proofs.in_hand.Ahead.last_field.Goals as goal

pub returns : goal.returns
returns c =
    let quotient : FitsSigned w64 c.div_euclid.result = search rules in
    let column : FitsSigned w64 c.last_column.result = search rules in
    let size : FitsSigned w64 c.args.stripe.size = search rules in
    let is = simp to_z-of_z at c.div_euclid.ensures in
    simp to_z-of_z (rw (is, c.last_column.ensures) refl)
