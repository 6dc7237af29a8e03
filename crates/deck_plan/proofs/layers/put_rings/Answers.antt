use Rattle.std.proofs.Common.{◌++◌, flat_map}
use Rattle.deck_plan.specs.Rings.{edges_of_quad}
use Rattle.deck_plan.proofs.Quads.{ring_put, all_put}
use Rattle.deck_plan.proofs.layers.put_rings.Goals as goal

pub loop-quad-preserved : goal.loop-quad-preserved
loop-quad-preserved g c = λ list given.
    let before = c.loop-quad.invariant list given in
    let first = c.in-Some.ensures.first before.0 before.1 in (
      first.0,
      first.2,
      ring_put c.args.operand c.in-Some.quad before.0 first.0 c.loop-quad.edges.items c.put_ring.new.edges.items
          (c.args.edges.now.items ++ flat_map (edges_of_quad c.args.operand) list) before.2 first.1 c.in_ok-put_ring.ensures,
    )

pub returns : goal.returns
returns g c = λ list given.
    let before = c.loop-quad.invariant list given in
    let last = c.in_default.ensures.first before.0 before.1 in
    all_put c.args.operand before.0 c.loop-quad.edges.items (c.args.edges.now.items ++ flat_map (edges_of_quad c.args.operand) list) before.2 last.0
