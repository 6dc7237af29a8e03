use Rattle.std.proofs.Common.{◌≡◌, ◌-ℤ◌, ◌≤ℤ◌, List}
use Rattle.half_grid.specs.Trapezoids.{Trapezoid}
use Rattle.trap_join.specs.Joins.{rows_up}
use Rattle.band_areas.specs.Parts.{AreAreasOf}
use Rattle.file_check.specs.Fronts.{IsJudgedTo}
use Rattle.file_check.proofs.bands.fault_of_band.Given as goal

-- below what is left of the band there is no fault
abbrev pub invariant-loop-alloc : goal.invariant-loop-alloc
invariant-loop-alloc g l = record {
  areas : AreAreasOf l.plan l.output l.areas;
  judged : (shots : List Trapezoid) → IsJudgedTo l.plan l.output shots l.fn.band.y0 l.fn.front
      → IsJudgedTo l.plan l.output shots l.left.y0 l.front;
  low : l.fn.band.y0 ≤ℤ l.left.y0;
  high : l.left.y0 ≤ℤ l.left.y1;
  top : l.left.y1 ≡ l.fn.band.y1;
  content : g.D.Depot.content l.depot ≡ g.D.Depot.content l.fn.depot;
  counts : g.D.Depot.counts l.depot ≡ g.D.Depot.counts l.fn.depot;
}

abbrev pub decreases-loop-alloc : goal.decreases-loop-alloc
decreases-loop-alloc g l = rows_up (l.left.y1 -ℤ l.left.y0)
