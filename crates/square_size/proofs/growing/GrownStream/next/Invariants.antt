use Rattle.std.proofs.Common.{◌+◌, ◌*◌, ◌≤◌, List, length}
use Rattle.half_grid.specs.Edges.{EdgeParts}
use Rattle.square_size.specs.Growing.{StandsForGrown}
use Rattle.square_size.proofs.growing.GrownStream.next.Given as goal

-- no edge was taken: the stream stands for the list that it stood for, and its size has not risen
abbrev pub invariant-loop-edge : goal.invariant-loop-edge
invariant-loop-edge g l = record {
  same : (edges : List EdgeParts)
      → StandsForGrown g.S.Stream.stands_for l.initial.self.by.dx l.initial.self.by.dy l.initial.self.source
      l.initial.self.in_hand edges
      → StandsForGrown g.S.Stream.stands_for l.self.by.dx l.self.by.dy l.self.source l.self.in_hand edges;
  size : length l.self.in_hand + 4 * g.S.Stream.size l.self.source ≤ length l.initial.self.in_hand + 4 * g.S.Stream.size l.initial.self.source;
}

abbrev pub decreases-loop-edge : goal.decreases-loop-edge
decreases-loop-edge g l = g.S.Stream.size l.self.source
