use Rattle.std.proofs.Common.{◌≡◌, ◌++◌, drop, filter}
use Rattle.column_sweep.specs.Looking.{begins_below}
use Rattle.column_sweep.proofs.looking.those_below.Given as goal

abbrev pub invariant-loop-edge : goal.invariant-loop-edge
invariant-loop-edge l = l.some.items ++ filter (begins_below l.rows) (drop l.edge-index l.edges) ≡ filter (begins_below l.rows) l.edges
