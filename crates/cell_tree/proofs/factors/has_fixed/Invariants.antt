use Rattle.std.proofs.Common.{◌≤◌, ◌-◌, length}
use Rattle.cell_tree.specs.Cells.{HasNoneFixed}
use Rattle.cell_tree.proofs.factors.has_fixed.Given as goal

abbrev pub invariant-loop-k : goal.invariant-loop-k
invariant-loop-k l = (l.k ≤ length l.shapes) × HasNoneFixed l.shapes 0 l.k

abbrev pub decreases-loop-k : goal.decreases-loop-k
decreases-loop-k l = length l.shapes - l.k
