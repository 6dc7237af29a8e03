use Rattle.std.proofs.Common.{◌≡◌, ◌++◌, All, map, length}
use Rattle.scan_line.specs.ClippedEdges.{parts_in}
use Rattle.row_lists.specs.Events.{events_of}
use Rattle.edge_events.specs.EventNumbers.{event_of, IsNumber}
use Rattle.edge_events.proofs.source.numbers_in.Given as goal

abbrev pub invariant-loop-edge : goal.invariant-loop-edge
invariant-loop-edge l = record {
  events : map event_of l.numbers.items ++ events_of (parts_in l.window l.left) ≡ events_of (parts_in l.window l.edges);
  numbers : All IsNumber l.numbers.items;
}

abbrev pub decreases-loop-edge : goal.decreases-loop-edge
decreases-loop-edge l = length l.left
