use Rattle.std.proofs.Common.{◌≡◌, take, map}
use Rattle.cell_tree.specs.Cells.{targets_of}
use Rattle.cell_tree.proofs.linked.all_targets.Given as goal

abbrev pub invariant-loop-cell : goal.invariant-loop-cell
invariant-loop-cell l = map (λ row. row.items) l.targets.items ≡ map (λ cell. targets_of l.cells cell.placements) (take l.cell-index l.cells)
