use Rattle.std.proofs.Common.{◌≤◌, ◌-◌, length}
use Rattle.deck_plan.specs.Plans.{AreCutUpTo}
use Rattle.deck_plan.proofs.cutting.cut_parts.Given as goal

-- the shapes of the first cells are cut
abbrev pub invariant-loop-cell : goal.invariant-loop-cell
invariant-loop-cell l = record {
  cut : AreCutUpTo l.fn.tree.layout.cells l.fn.tree.top l.parts l.cell 0;
  few : l.cell ≤ length l.fn.tree.layout.cells;
}

abbrev pub decreases-loop-cell : goal.decreases-loop-cell
decreases-loop-cell l = length l.fn.tree.layout.cells - l.cell
