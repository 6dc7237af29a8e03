use Rattle.std.proofs.Common.{arith, w64, FitsSigned, rules}
use Rattle.std.proofs.lemmas.Int.{ints, to_z-of_z}
use Rattle.square_size.proofs.BandLemmas.{x_near}
use Rattle.square_size.proofs.shrinking.bottom_of.Goals as goal

pub overflow_sub-result : goal.overflow_sub-result
overflow_sub-result c =
    let y : FitsSigned w64 c.args.band.now.y0 = search rules in
    let right = simp to_z-of_z at c.x_on.ensures in
    let left = simp to_z-of_z at c.x_on-2.ensures in
    let far = x_near c.args.band.now.right c.args.band.now.y0 c.requires.right c.requires.y0 in
    let near = x_near c.args.band.now.left c.args.band.now.y0 c.requires.left c.requires.y0 in
    omega (arith, ints, far.0, far.1, near.0, near.1)

pub returns : goal.returns
returns c =
    let y : FitsSigned w64 c.args.band.now.y0 = search rules in
    let right = simp to_z-of_z at c.x_on.ensures in
    let left = simp to_z-of_z at c.x_on-2.ensures in
    let far = x_near c.args.band.now.right c.args.band.now.y0 c.requires.right c.requires.y0 in
    let near = x_near c.args.band.now.left c.args.band.now.y0 c.requires.left c.requires.y0 in
    omega (arith, ints, far.0, far.1, near.0, near.1)
