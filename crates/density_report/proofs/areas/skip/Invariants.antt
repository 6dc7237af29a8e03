use Rattle.std.specs.Int.{int_gap}
use Rattle.deck_plan.specs.Plans.{planned_area}
use Rattle.density_report.specs.Rows.{IsPassed, IsPortion}
use Rattle.density_report.proofs.areas.skip.Given as goal

abbrev pub invariant-loop-rest : goal.invariant-loop-rest
invariant-loop-rest l = record {
  passed : IsPassed (planned_area l.plan l.output) l.left l.rest;
  portion : IsPortion l.left.mesh.size l.portion;
}

abbrev pub decreases-loop-rest : goal.decreases-loop-rest
decreases-loop-rest l = int_gap l.rest.row l.rest.end
