use Rattle.std.proofs.Common.{◌++◌}
use Rattle.deck_plan.specs.Rings.{edges_of_quad}
use Rattle.deck_plan.proofs.Quads.{one_put}
use Rattle.deck_plan.proofs.layers.put_ring.Goals as goal

pub loop-edge-preserved : goal.loop-edge-preserved
loop-edge-preserved c =
    let before = c.loop-edge.invariant in
    let first = c.in-Some.ensures.first before.0 before.1 in (
      first.0,
      first.2,
      one_put c.loop-edge.edges.items c.put_edge.new.edges.items before.0 first.0
          (c.args.edges.now.items ++ edges_of_quad c.args.operand c.args.quad.now) c.in-Some.edge c.in_ok-put_edge.ensures first.1
          before.2,
    )
