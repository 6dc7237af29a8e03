use Rattle.std.proofs.Common.{arith, pos, ◌+ℤ◌, ◌<ℤ◌, w64, FitsSigned, refl}
use Rattle.std.proofs.lemmas.Int.{ints, to_z-of_z}
use Rattle.half_grid.specs.Sides.{side_length}
use Rattle.half_grid.specs.Trapezoids.{IsShot, trapezoid}
use Rattle.half_grid.proofs.SideLemmas.{shot_of_sides}
use Rattle.half_grid.proofs.shot.Trap.new.Goals as goal

pub returns-then-bottom-top-le0 : goal.returns-then-bottom-top-le0
returns-then-bottom-top-le0 c = λ shot.
    let first : FitsSigned w64 c.args.y0 = c.ranges.y0 in
    let last : FitsSigned w64 c.args.y1 = c.ranges.y1 in
    let bottom = simp to_z-of_z at c.in-Some.ensures.1 in
    let top = simp to_z-of_z at c.in-Some-side_length.ensures.1 in
    omega (
      arith,
      ints,
      shot.legal.not_flat,
      shot.legal.bottom,
      shot.legal.top,
      shot.reach.bottom_left,
      shot.reach.bottom_right,
      shot.reach.top_left,
      shot.reach.top_right,
    )

-- what the four numbers are, where each test was passed
shot : (c : goal.Else-bottom-top-le0) → IsShot (trapezoid c.args.y0 c.args.y1 c.args.left c.args.right)
shot c =
    let first : FitsSigned w64 c.args.y0 = c.ranges.y0 in
    let last : FitsSigned w64 c.args.y1 = c.ranges.y1 in
    let bottom_side = simp to_z-of_z at c.in-Some.ensures.0 in
    let top_side = simp to_z-of_z at c.in-Some-side_length.ensures.0 in
    let bottom = simp to_z-of_z at c.in-Some.ensures.1 in
    let top = simp to_z-of_z at c.in-Some-side_length.ensures.1 in
    let low = simp to_z-of_z at (c.if-not-is_within_reach.ensures.0 refl) in
    let high = simp to_z-of_z at (c.if-not-is_within_reach-2.ensures.0 refl) in
    let rows : c.args.y0 <ℤ c.args.y1 = omega (arith, ints) in
    let area : pos 0 <ℤ (side_length c.args.left c.args.right c.args.y0 +ℤ side_length c.args.left c.args.right c.args.y1) =
    omega (arith, ints, bottom_side.left_end, bottom_side.right_end, top_side.left_end, top_side.right_end) in
    shot_of_sides c.args.y0 c.args.y1 c.args.left c.args.right low high rows bottom_side top_side area

pub invariant_of-result : goal.invariant_of-result
invariant_of-result c =
    let first : FitsSigned w64 c.args.y0 = c.ranges.y0 in
    let last : FitsSigned w64 c.args.y1 = c.ranges.y1 in
    simp to_z-of_z (shot c)

pub returns : goal.returns
returns c =
    let first : FitsSigned w64 c.args.y0 = c.ranges.y0 in
    let last : FitsSigned w64 c.args.y1 = c.ranges.y1 in
    (shot c, simp to_z-of_z)
