use Rattle.std.proofs.Common.{length}
use Rattle.scan_line.proofs.Turning.{AreBelow}
use Rattle.scan_line.proofs.stops.below_stop.Given as goal

abbrev pub invariant-loop-edge : goal.invariant-loop-edge
invariant-loop-edge l = AreBelow l.edges l.left l.fn.slab l.rows

abbrev pub decreases-loop-edge : goal.decreases-loop-edge
decreases-loop-edge l = length l.left
