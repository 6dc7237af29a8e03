use Rattle.edge_events.proofs.EdgeParts.{events_further}
use Rattle.edge_events.specs.EventNumbers.{event_of}
use Rattle.std.proofs.Common.{map}
use Rattle.edge_events.proofs.source.numbers_in.Goals as goal

pub loop-edge-preserved : goal.loop-edge-preserved
loop-edge-preserved c = record {
  events = events_further c.args.window (map event_of c.loop-edge.numbers.items) (map event_of c.push_part.new.numbers.items) c.loop-edge.left.now
      c.in-Some.rest.now c.args.edges.now c.in-Some.edge.now c.in-Some.ensures.cases.0 c.loop-edge.invariant.events c.in_ok-push_part.ensures.events;
  numbers = c.in_ok-push_part.ensures.numbers;
}
