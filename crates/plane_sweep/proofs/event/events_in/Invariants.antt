use Rattle.std.proofs.Common.{◌≡◌, ◌++◌, length}
use Rattle.scan_line.specs.ClippedEdges.{parts_in}
use Rattle.row_lists.specs.Events.{events_of}
use Rattle.plane_sweep.proofs.event.events_in.Given as goal

abbrev pub invariant-loop-edge : goal.invariant-loop-edge
invariant-loop-edge l = l.events.items ++ events_of (parts_in l.window l.left) ≡ events_of (parts_in l.window l.edges)

abbrev pub decreases-loop-edge : goal.decreases-loop-edge
decreases-loop-edge l = length l.left
