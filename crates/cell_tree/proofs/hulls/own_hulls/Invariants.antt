use Rattle.std.proofs.Common.{◌≤◌, ◌-◌, length}
use Rattle.cell_tree.specs.HullTables.{AreFirstHulls}
use Rattle.cell_tree.proofs.hulls.own_hulls.Given as goal

abbrev pub invariant-loop-k : goal.invariant-loop-k
invariant-loop-k l = (l.k ≤ length l.shapes) × AreFirstHulls l.shapes l.k l.hulls.items

abbrev pub decreases-loop-k : goal.decreases-loop-k
decreases-loop-k l = length l.shapes - l.k
