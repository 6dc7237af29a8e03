use Rattle.std.proofs.Common.{◌≤◌, ◌-◌}
use Rattle.deck_plan.specs.Extents.{AreExtents}
use Rattle.deck_plan.proofs.extents.Extents.of.Given as goal

-- the rows of the definitions before this number
abbrev pub invariant-loop-number : goal.invariant-loop-number
invariant-loop-number l = record {
  extents : AreExtents l.fn.tree.layout.cells l.fn.tree.top l.fn.deck l.number l.extents.by_name;
  few : l.number ≤ l.fn.count;
}

abbrev pub decreases-loop-number : goal.decreases-loop-number
decreases-loop-number l = l.fn.count - l.number
