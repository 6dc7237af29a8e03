use Rattle.std.proofs.Common.{◌≡◌, length, take}
use Rattle.std.specs.List.{sum_by}
use Rattle.flat_walk.specs.Tables.{count_within}
use Rattle.flat_walk.proofs.tables.pieces_in.Given as goal

abbrev pub invariant-loop-lists : goal.invariant-loop-lists
invariant-loop-lists l = l.count ≡ count_within (sum_by (sum_by length) (take l.lists-index l.table))
