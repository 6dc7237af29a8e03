use Rattle.std.proofs.Common.{◌≡◌, length, take}
use Rattle.std.specs.List.{sum_by}
use Rattle.flat_walk.specs.Tables.{count_within}
use Rattle.flat_walk.proofs.cell_lists.pieces_of.Given as goal

abbrev pub invariant-loop-number : goal.invariant-loop-number
invariant-loop-number l = l.count ≡ count_within (sum_by (λ entry. length entry.pieces) (take l.number l.table))
