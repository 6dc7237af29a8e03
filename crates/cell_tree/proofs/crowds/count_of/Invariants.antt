use Rattle.std.proofs.Common.{◌≡◌, ◌+◌, take}
use Rattle.std.specs.List.{sum_by}
use Rattle.cell_tree.specs.Cells.{shapes_at, placements_at}
use Rattle.cell_tree.specs.Counting.{saturated, own_count, placed_count}
use Rattle.cell_tree.proofs.crowds.count_of.Given as goal

abbrev pub invariant-loop-k : goal.invariant-loop-k
invariant-loop-k l = l.count ≡ saturated
    (own_count (shapes_at l.linked.cells l.cell) + sum_by (placed_count l.linked.cells)
    (take l.k (placements_at l.linked.cells l.cell)))
