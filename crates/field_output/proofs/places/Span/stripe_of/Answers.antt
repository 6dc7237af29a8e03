use Rattle.std.proofs.Common.{rules, FitsSigned, w64}
use Rattle.std.proofs.lemmas.Int.{to_z-of_z}
use Rattle.field_output.proofs.places.Span.stripe_of.Goals as goal

pub returns : goal.returns
returns c =
    let quotient : FitsSigned w64 c.div_euclid.result = search rules in
    let row : FitsSigned w64 c.args.y = search rules in
    let size : FitsSigned w64 c.args.self.size = search rules in
    let is = simp to_z-of_z at c.div_euclid.ensures in
    simp to_z-of_z is
