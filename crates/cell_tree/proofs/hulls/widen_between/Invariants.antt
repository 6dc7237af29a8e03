use Rattle.cell_tree.specs.HullTables.{AreFirstHulls}
use Rattle.cell_tree.proofs.hulls.widen_between.Given as goal

abbrev pub invariant-loop-number : goal.invariant-loop-number
invariant-loop-number l = AreFirstHulls l.shapes l.number l.hulls.items
