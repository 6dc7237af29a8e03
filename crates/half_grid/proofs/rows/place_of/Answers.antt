use Rattle.std.proofs.Common.{arith, pos, ◌+ℤ◌, w64, FitsSigned}
use Rattle.std.proofs.lemmas.Int.{ints, to_z-of_z}
use Rattle.half_grid.proofs.rows.place_of.Goals as goal

pub x_at-requires-2-clause-y : goal.x_at-requires-2-clause-y
x_at-requires-2-clause-y c =
    let row : FitsSigned w64 c.args.row = c.ranges.row in
    let next : FitsSigned w64 (c.args.row +ℤ pos 1) = omega (arith, ints) in
    simp to_z-of_z c.requires.next_row

pub overflow_add-result : goal.overflow_add-result
overflow_add-result c =
    let row : FitsSigned w64 c.args.row = c.ranges.row in
    let next : FitsSigned w64 (c.args.row +ℤ pos 1) = omega (arith, ints) in
    let h = simp to_z-of_z at c.x_at.ensures in
    let k = simp to_z-of_z at c.x_at-2.ensures in
    omega (arith, ints)

pub returns : goal.returns
returns c =
    let row : FitsSigned w64 c.args.row = c.ranges.row in
    let next : FitsSigned w64 (c.args.row +ℤ pos 1) = omega (arith, ints) in
    let h = simp to_z-of_z at c.x_at.ensures in
    let k = simp to_z-of_z at c.x_at-2.ensures in
    omega (arith, ints)
