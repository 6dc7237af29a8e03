use Rattle.std.proofs.Common.{◌≡◌, take}
use Rattle.cell_tree.specs.Cells.{cell_names}
use Rattle.cell_tree.specs.Linking.{pointed}
use Rattle.cell_tree.proofs.linked.names_in_order.Given as goal

abbrev pub invariant-loop-cell : goal.invariant-loop-cell
invariant-loop-cell l = pointed l.names.keys ≡ take l.cell-index (cell_names l.cells)
