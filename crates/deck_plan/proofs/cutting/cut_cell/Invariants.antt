use Rattle.std.proofs.Common.{◌≤◌, ◌-◌, length}
use Rattle.deck_plan.specs.Plans.{AreCutUpTo}
use Rattle.deck_plan.proofs.cutting.cut_cell.Given as goal

-- the shapes before this one are cut
abbrev pub invariant-loop-number : goal.invariant-loop-number
invariant-loop-number l = record {
  cut : AreCutUpTo l.fn.tree.layout.cells l.fn.tree.top l.parts l.fn.cell l.number;
  few : l.number ≤ length l.shapes;
}

abbrev pub decreases-loop-number : goal.decreases-loop-number
decreases-loop-number l = length l.shapes - l.number
