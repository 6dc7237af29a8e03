use Rattle.std.proofs.Common.{rules, arith, pos, ◌<ℤ◌, FitsSigned, w64}
use Rattle.std.proofs.lemmas.Int.{ints, to_z-of_z}
use Rattle.field_split.proofs.Numbers.{stretch_of}
use Rattle.field_split.proofs.fields.Fields.stripe_of.Goals as goal

pub returns : goal.returns
returns c =
    let quotient : FitsSigned w64 c.div_euclid.result = search rules in
    let row : FitsSigned w64 c.args.y = search rules in
    let size : FitsSigned w64 c.size.result = search rules in
    let is = simp to_z-of_z at c.div_euclid.ensures in
    let some : pos 0 <ℤ c.size.result = omega (arith, ints, c.size.ensures.range.least) in
    let stretch = stretch_of c.size.result c.args.y some in
    simp to_z-of_z (rw (is, ← c.size.ensures.value) stretch)
