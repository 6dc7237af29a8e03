use Rattle.std.proofs.Common.{◌≡◌, arith, pos, ◌+ℤ◌, ◌-ℤ◌, w64, FitsSigned, rules, sym, subst}
use Rattle.std.proofs.lemmas.Int.{ints, to_z-of_z}
use Rattle.half_grid.specs.Trapezoids.{trapezoid}
use Rattle.square_size.specs.Shrinking.{inner, IsBand}
use Rattle.square_size.proofs.BandLemmas.{inner_is_band}
use Rattle.square_size.proofs.shrinking.inner.Goals as goal

-- the four parts by their numbers
made : (c : goal.After-moved-right)
    → trapezoid (c.y0.result +ℤ c.args.d) (c.y1.result -ℤ c.args.d) c.moved-left.result c.moved-right.result ≡ inner c.args.d c.args.trap.now
made c =
    let d : FitsSigned w64 c.args.d = c.ranges.d in
    let back : FitsSigned w64 (pos 0 -ℤ c.args.d) = omega (arith, ints) in
    let left = simp to_z-of_z at c.moved-left.ensures in
    let right = simp to_z-of_z at c.moved-right.ensures in
    simp (left, right, c.y0.ensures.value, c.y1.ensures.value, c.left.ensures.value, c.right.ensures.value)

pub returns-clause-value : goal.returns-clause-value
returns-clause-value c =
    let d : FitsSigned w64 c.args.d = c.ranges.d in
    let y0 : FitsSigned w64 c.y0.result = search rules in
    let y1 : FitsSigned w64 c.y1.result = search rules in
    let low : FitsSigned w64 (c.y0.result +ℤ c.args.d) = omega (arith, ints, c.y0.ensures.shot.reach.y0.low, c.y0.ensures.shot.reach.y0.high) in
    let high : FitsSigned w64 (c.y1.result -ℤ c.args.d) = omega (arith, ints, c.y0.ensures.shot.reach.y1.low, c.y0.ensures.shot.reach.y1.high) in
    simp to_z-of_z (made c)

pub returns-clause-band : goal.returns-clause-band
returns-clause-band c =
    subst IsBand (sym (returns-clause-value c)) (inner_is_band c.args.d c.args.trap.now c.requires.low c.requires.high c.left.ensures.shot)
