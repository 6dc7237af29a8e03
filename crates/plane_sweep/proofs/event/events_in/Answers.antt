use Rattle.plane_sweep.proofs.EdgePart.{events_further}
use Rattle.plane_sweep.proofs.event.events_in.Goals as goal

pub loop-edge-preserved : goal.loop-edge-preserved
loop-edge-preserved c =
    events_further c.args.window c.loop-edge.events.items c.push_part.new.events.items c.loop-edge.left.now c.in-Some.rest.now c.args.edges.now
    c.in-Some.edge.now c.in-Some.ensures.cases.0 c.loop-edge.invariant c.in_ok-push_part.ensures
