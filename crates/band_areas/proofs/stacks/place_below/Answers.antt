use Rattle.std.proofs.Common.{rules, ◌≡◌, ap, ◌+ℤ◌, ◌-ℤ◌, pos, arith, FitsSigned, w64}
use Rattle.std.proofs.lemmas.Int.{ints, to_z-of_z}
use Rattle.half_grid.specs.Lines.{x_on}
use Rattle.band_areas.proofs.stacks.place_below.Goals as goal

pub returns : goal.returns
returns c =
    let x = c.bottom_left.ensures.reach in
    let below = c.x_below-below.ensures in
    let a : FitsSigned w64 c.bottom_left.result = search rules in
    let b : FitsSigned w64 c.x_below-below.result.at = search rules in
    let d : FitsSigned w64 (c.x_below-below.result.at +ℤ c.bottom_left.result) = omega (arith, ints, x.low, x.high, below.low, below.high) in
    let up : (c.args.trap.now.y0 -ℤ pos 1) +ℤ pos 1 ≡ c.args.trap.now.y0 = omega (arith, ints) in
    let same = ap (x_on c.args.trap.now.left) up in
    let at = c.bottom_left.ensures.value in
    simp to_z-of_z (omega (arith, ints, below.is, same, at))
