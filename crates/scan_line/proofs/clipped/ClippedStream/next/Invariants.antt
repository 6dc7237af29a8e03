use Rattle.std.proofs.Common.{◌≤◌}
use Rattle.scan_line.specs.ClippedStreams.{StandsForClipped}
use Rattle.scan_line.proofs.clipped.ClippedStream.next.Given as goal

-- no part was given: the stream stands for the list that it stood for, and its size has not risen
abbrev pub invariant-loop-edge : goal.invariant-loop-edge
invariant-loop-edge g l =
    ((items : _) → StandsForClipped g.S.Stream.stands_for l.initial.self.window l.initial.self.source items
    → StandsForClipped g.S.Stream.stands_for l.self.window l.self.source items)
    × (g.S.Stream.size l.self.source ≤ g.S.Stream.size l.initial.self.source)

abbrev pub decreases-loop-edge : goal.decreases-loop-edge
decreases-loop-edge g l = g.S.Stream.size l.self.source
