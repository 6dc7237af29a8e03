use Rattle.std.proofs.Common.{FitsSigned, to_z, rules, ◌≡◌, ◌+ℤ◌, suc, length, ap, arith, List}
use mir.Syntax.{w128}
use Rattle.std.proofs.lemmas.Int.{ints, to_z-of_z}
use Rattle.half_grid.specs.Edges.{EdgeParts, edges_winding}
use Rattle.plane_sweep.proofs.LowestLemmas.{edge_passed, none_left}
use Rattle.plane_sweep.proofs.lowest_tile.winding_at.Goals as goal

pub loop-edge-preserved : goal.loop-edge-preserved
loop-edge-preserved c =
    let fits : FitsSigned w128 c.from-sum.result = search rules in
    let same : c.from-sum.result ≡ c.added.result = search rules in
    let count : length c.loop-edge.left.now ≡ suc (length c.in-Some.rest.now) = ap (λ (es : List EdgeParts). length es) c.in-Some.ensures.cases.0 in
    let low = c.added.ensures.low in
    let high = c.added.ensures.high in
    let low_before = c.loop-edge.invariant.low in
    let high_before = c.loop-edge.invariant.high in
    let sum_fits : FitsSigned w128 (to_z w128 c.loop-edge.sum-bits +ℤ c.added.result) = omega (arith, ints, count, low, high, low_before, high_before) in
    record {
      sum = λ t is. rw (to_z-of_z w128 c.from-sum.result fits, same, to_z-of_z w128 _ sum_fits)
          (edge_passed c.args.operand t c.in-Some.edge.now c.loop-edge.left.now c.in-Some.rest.now (to_z w128 c.loop-edge.sum-bits) c.added.result
          (edges_winding c.args.operand c.args.edges.now t) c.in-Some.ensures.cases.0 (c.loop-edge.invariant.sum t is) (c.added.ensures.adds t is));
      low = rw (to_z-of_z w128 c.from-sum.result fits, same, to_z-of_z w128 _ sum_fits) (omega (arith, ints, count, low, low_before));
      high = rw (to_z-of_z w128 c.from-sum.result fits, same, to_z-of_z w128 _ sum_fits) (omega (arith, ints, count, high, high_before));
    }

pub returns : goal.returns
returns c = λ t is. none_left c.args.operand t c.loop-edge.left.now (to_z w128 c.loop-edge.sum-bits) (edges_winding c.args.operand c.args.edges.now t)
    c.in_default.ensures.cases (c.loop-edge.invariant.sum t is)
