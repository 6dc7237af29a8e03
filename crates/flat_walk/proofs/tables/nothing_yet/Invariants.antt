use Rattle.std.proofs.Common.{◌≡◌, [], replicate}
use Rattle.flat_walk.proofs.tables.nothing_yet.Given as goal

abbrev pub invariant-loop-cell : goal.invariant-loop-cell
invariant-loop-cell l = l.table.items ≡ replicate l.cell-index []
