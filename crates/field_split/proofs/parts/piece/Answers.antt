use Rattle.std.proofs.Common.{rules, arith, ◌<ℤ◌, FitsSigned, w64}
use Rattle.std.proofs.lemmas.Int.{ints, to_z-of_z}
use Rattle.field_split.proofs.parts.piece.Goals as goal

pub invariant_of-result : goal.invariant_of-result
invariant_of-result c =
    let low : FitsSigned w64 c.args.rows.y0 = search rules in
    let high : FitsSigned w64 c.args.rows.y1 = search rules in
    let some : c.args.rows.y0 <ℤ c.args.rows.y1 = omega (arith, ints, c.if-rows.false) in
    let shot = c.requires.shot some in
    record { shot = simp to_z-of_z (rw (c.left_in.ensures, c.right_in.ensures) shot) }
