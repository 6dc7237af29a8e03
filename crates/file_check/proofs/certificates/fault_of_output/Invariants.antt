use Rattle.std.proofs.Common.{◌≡◌, ◌+ℤ◌, ◌-ℤ◌, ◌≤ℤ◌, pos, neg_ℤ}
use Rattle.trap_join.specs.Joins.{rows_up}
use Rattle.band_areas.specs.Parts.{AreAreasOf}
use Rattle.file_check.specs.Fronts.{IsJudgedTo}
use Rattle.file_check.proofs.certificates.fault_of_output.Given as goal

-- below the band there is no fault
abbrev pub invariant-loop-deck : goal.invariant-loop-deck
invariant-loop-deck g l = record {
  areas : AreAreasOf l.plan l.output l.areas;
  judged : IsJudgedTo l.plan l.output l.shots l.band.y0 l.front;
  low : neg_ℤ (pos 4294967296) ≤ℤ l.band.y0;
  high : l.band.y0 ≤ℤ pos 4294967296;
  height : l.band.y1 ≡ l.band.y0 +ℤ l.deck.band;
  content : g.D.Depot.content l.depot ≡ g.D.Depot.content l.fn.depot;
  counts : g.D.Depot.counts l.depot ≡ g.D.Depot.counts l.fn.depot;
}

abbrev pub decreases-loop-deck : goal.decreases-loop-deck
decreases-loop-deck g l = rows_up (l.rows.y1 -ℤ l.band.y0)
