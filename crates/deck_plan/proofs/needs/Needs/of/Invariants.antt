use Rattle.std.proofs.Common.{◌≤◌, ◌+◌}
use Rattle.deck_plan.specs.Halos.{AreHalos}
use Rattle.deck_plan.proofs.needs.Needs.of.Given as goal

-- all definitions from this number on have passed
abbrev pub invariant-loop-number : goal.invariant-loop-number
invariant-loop-number l = record {
  halos : AreHalos l.fn.deck l.fn.name l.number l.needs.by_name;
  few : l.number ≤ l.fn.name + 1;
}

abbrev pub decreases-loop-number : goal.decreases-loop-number
decreases-loop-number l = l.number
