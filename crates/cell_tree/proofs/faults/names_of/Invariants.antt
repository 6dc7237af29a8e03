use Rattle.std.proofs.Common.{◌≡◌, map, take}
use Rattle.cell_tree.specs.Cells.{name_at}
use Rattle.cell_tree.proofs.faults.names_of.Given as goal

abbrev pub invariant-loop-number : goal.invariant-loop-number
invariant-loop-number l = l.names ≡ map (name_at l.cells) (take l.number-index l.numbers)
