use Rattle.std.proofs.Common.{◌≤◌, ◌-◌}
use Rattle.deck_plan.specs.Plans.{AreCutUpTo}
use Rattle.deck_plan.proofs.cutting.cut_some.Given as goal

-- the shapes before this one are cut
abbrev pub invariant-loop-number : goal.invariant-loop-number
invariant-loop-number l = record {
  cut : AreCutUpTo l.fn.tree.layout.cells l.fn.tree.top l.parts l.fn.cell l.number;
  few : l.number ≤ l.fn.end;
}

abbrev pub decreases-loop-number : goal.decreases-loop-number
decreases-loop-number l = l.fn.end - l.number
