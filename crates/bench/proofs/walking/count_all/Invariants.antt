use Rattle.std.proofs.Common.{List}
use Rattle.half_grid.specs.Quads.{Corners}
use Rattle.bench.proofs.walking.count_all.Given as goal

-- the quadrilaterals still to come are a list
abbrev pub invariant-loop-quad : goal.invariant-loop-quad
invariant-loop-quad g l = (rest : List Corners) × g.S.Stream.stands_for l.quads rest

abbrev pub decreases-loop-quad : goal.decreases-loop-quad
decreases-loop-quad g l = g.S.Stream.size l.quads
