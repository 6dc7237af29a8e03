use Rattle.std.proofs.Common.{arith, w64, FitsSigned}
use Rattle.std.proofs.lemmas.Int.{ints, to_z-of_z}
use Rattle.half_grid.proofs.neighbours.differ_at_most.Goals as goal

pub returns : goal.returns
returns c =
    let limit : FitsSigned w64 c.args.limit = c.ranges.limit in
    let first : FitsSigned w64 c.args.a = c.ranges.a in
    let second : FitsSigned w64 c.args.b = c.ranges.b in
    let one = simp to_z-of_z at c.difference.ensures in
    let two = simp to_z-of_z at c.difference-2.ensures in
    (λ h. record { above = omega (arith, ints); below = grind (arith, ints) }, λ h. grind (arith, ints, h.below))
