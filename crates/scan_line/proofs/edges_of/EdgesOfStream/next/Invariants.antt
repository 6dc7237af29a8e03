use Rattle.std.proofs.Common.{◌≡◌, ◌≤◌, length}
use Rattle.scan_line.specs.OutlineEdges.{AreNear, edges_along}
use Rattle.scan_line.proofs.edges_of.EdgesOfStream.next.Given as goal

-- no edge was taken: the points to come have the edges that there were
abbrev pub invariant-loop-point : goal.invariant-loop-point
invariant-loop-point l = record {
  near : AreNear l.self.points.now;
  operand : l.self.operand ≡ l.initial.self.operand;
  edges : edges_along l.self.operand l.self.points.now ≡ edges_along l.initial.self.operand l.initial.self.points.now;
  shorter : length l.self.points.now ≤ length l.initial.self.points.now;
}

abbrev pub decreases-loop-point : goal.decreases-loop-point
decreases-loop-point l = length l.self.points.now
