use Rattle.std.proofs.Common.{◌+ℤ◌, ◌<◌, pos, FitsSigned, to_z, get_or, length, sym, arith, rules, add-one}
use mir.Syntax.{w128}
use Rattle.std.proofs.Math.Seq.{drop-cons}
use Rattle.std.proofs.lemmas.Int.{ints, to_z-of_z}
use Rattle.half_grid.specs.declared.plane.Point.{Point}
use Rattle.half_grid.proofs.WindingLemmas.{winding_along, winding_step, crossing_small, winding_empty}
use Rattle.half_grid.proofs.outline.winding_at.Goals as goal

pub returns-in_default : goal.returns-in_default
returns-in_default c = sym (winding_empty c.args.tile c.args.points.now c.in_default.ensures.cases)

pub loop-point-init : goal.loop-point-init
loop-point-init c = (
  rw c.in-Some.ensures.cases.0
      (omega (arith, ints, winding_along c.args.tile c.in-Some.first.now c.in-Some.rest.now)),
  omega (arith, ints),
  omega
      (arith, ints),
)

pub overflow_add-winding : goal.overflow_add-winding
overflow_add-winding c =
    let point : Point = get_or c.in-Some.rest.now c.loop-point.point-index (record { x = pos 0; y = pos 0 }) in
    let small = crossing_small c.args.tile c.loop-point.previous point in
    let fits : FitsSigned w128 c.crossing-winding.result = search rules in
    omega (arith, ints, c.crossing-winding.ensures, small.0, small.1, c.loop-point.invariant.1, c.loop-point.invariant.2)

pub loop-point-preserved : goal.loop-point-preserved
loop-point-preserved c =
    let point : Point = get_or c.in-Some.rest.now c.loop-point.point-index (record { x = pos 0; y = pos 0 }) in
    let small = crossing_small c.args.tile c.loop-point.previous point in
    let fits : FitsSigned w128 c.crossing-winding.result = search rules in
    let sum_fits : FitsSigned w128 (to_z w128 c.loop-point.winding-bits +ℤ c.crossing-winding.result) = omega (
      arith,
      ints,
      c.crossing-winding.ensures,
      small.0,
      small.1,
      c.loop-point.invariant.1,
      c.loop-point.invariant.2,
    ) in
    let inside : c.loop-point.point-index < length c.in-Some.rest.now = c.loop-point-test.true in
    rw (to_z-of_z w128 c.crossing-winding.result fits, to_z-of_z w128 _ sum_fits, c.crossing-winding.ensures, add-one) (
      winding_step c.args.tile c.loop-point.previous point _ _ _ _ (drop-cons c.in-Some.rest.now c.loop-point.point-index _ inside) c.loop-point.invariant.0,
      omega (arith, ints, small.0, c.loop-point.invariant.1),
      omega (arith, ints, small.1, c.loop-point.invariant.2),
    )
