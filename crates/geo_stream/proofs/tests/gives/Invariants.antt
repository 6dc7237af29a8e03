use Rattle.geo_stream.specs.Stream.{HasList}
use Rattle.geo_stream.proofs.tests.gives.Given as goal

abbrev pub invariant-loop-item : goal.invariant-loop-item
invariant-loop-item g l = HasList g.S.Stream.stands_for l.stream
