use Rattle.std.proofs.Common.{◌≡◌, ◌++◌}
use Rattle.geo_stream.proofs.gathering.gather.Given as goal

-- what was gathered and what is still to come are the list
abbrev pub invariant-loop-item : goal.invariant-loop-item
invariant-loop-item g l =
    (items : _) → g.S.Stream.stands_for l.fn.stream items
    → (rest : _) × (items ≡ l.all.items ++ rest) × g.S.Stream.stands_for l.stream rest

abbrev pub decreases-loop-item : goal.decreases-loop-item
decreases-loop-item g l = g.S.Stream.size l.stream
