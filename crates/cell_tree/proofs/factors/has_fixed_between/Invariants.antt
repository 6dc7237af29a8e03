use Rattle.cell_tree.specs.Cells.{HasNoneFixed}
use Rattle.cell_tree.proofs.factors.has_fixed_between.Given as goal

abbrev pub invariant-loop-number : goal.invariant-loop-number
invariant-loop-number l = HasNoneFixed l.shapes l.from l.number
