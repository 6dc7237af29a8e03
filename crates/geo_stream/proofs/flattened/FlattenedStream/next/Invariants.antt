use Rattle.std.proofs.Common.{◌+◌, ◌*◌, ◌≤◌}
use Rattle.geo_stream.specs.Flattened.{StandsForFlattened, size_in_hand}
use Rattle.geo_stream.proofs.flattened.FlattenedStream.next.Given as goal

-- no item was taken: the stream stands for the list that it stood for, and its size has not risen
abbrev pub invariant-loop-item : goal.invariant-loop-item
invariant-loop-item g l =
    ((items : _) → StandsForFlattened g.S.Stream.stands_for g.S.Item.Stream.stands_for l.initial.self.source l.initial.self.in_hand items
    → StandsForFlattened g.S.Stream.stands_for g.S.Item.Stream.stands_for l.self.source l.self.in_hand items)
    × (size_in_hand g.S.Item.Stream.size l.self.in_hand + g.S.Item.Stream.most * g.S.Stream.size l.self.source
    ≤ size_in_hand g.S.Item.Stream.size l.initial.self.in_hand + g.S.Item.Stream.most * g.S.Stream.size l.initial.self.source)

abbrev pub decreases-loop-item : goal.decreases-loop-item
decreases-loop-item g l = g.S.Stream.size l.self.source
