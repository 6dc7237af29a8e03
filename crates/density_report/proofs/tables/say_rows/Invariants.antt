use Rattle.std.proofs.Common.{◌≡◌, pos, ◌+ℤ◌, ◌*ℤ◌, ◌≤ℤ◌, length}
use Rattle.deck_plan.specs.Plans.{planned_area}
use Rattle.density_report.specs.Rows.{AreCountsFrom, IsBatch}
use Rattle.density_report.proofs.StripLemmas.{steps_left}
use Rattle.density_report.proofs.RowSteps.{AreRowsSoFar}
use Rattle.density_report.proofs.tables.say_rows.Given as goal

abbrev pub invariant-loop-left : goal.invariant-loop-left
invariant-loop-left g l = record {
  rows : AreRowsSoFar l.fn.plan l.fn.output l.fn.mesh.size l.left.row g.D.Depot.tells
      (g.D.Depot.content l.fn.depot) l.fn.buffer l.totals l.buffer (g.D.Depot.content l.depot);
  counts : AreCountsFrom (planned_area l.fn.plan l.fn.output) l.fn.mesh.size l.left.row l.maps.items;
  batch : IsBatch l.left;
  mesh : l.left.mesh ≡ l.fn.mesh;
  inside : (l.left.row +ℤ pos (length l.maps.items)) ≤ℤ l.left.end;
  last : l.fn.rows.y1 ≤ℤ (l.left.end *ℤ l.fn.mesh.size);
  uncounted : g.D.Depot.counts l.depot ≡ g.D.Depot.counts l.fn.depot;
}

abbrev pub decreases-loop-left : goal.decreases-loop-left
decreases-loop-left g l = steps_left l.left (length l.maps.items)
