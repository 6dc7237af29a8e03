use Rattle.std.proofs.Common.{◌≡◌, pos, neg_ℤ, ◌≤ℤ◌, None}
use Rattle.std.specs.Int.{int_gap}
use Rattle.shot_writer.specs.WriterView.{pair_of, sums_of, refusal_of}
use Rattle.band_areas.specs.Parts.{AreAreasOf}
use Rattle.shot_output.specs.Bands.{IsPutBelow}
use Rattle.shot_output.proofs.bands.put_bands.Given as goal

abbrev pub invariant-loop-deck : goal.invariant-loop-deck
invariant-loop-deck g l = record {
  put : IsPutBelow l.fn.plan l.fn.output l.band (pair_of l.fn.writer) g.D.Depot.tells (g.D.Depot.content l.fn.depot)
      (g.D.Depot.content l.depot) (sums_of l.writer);
  areas : AreAreasOf l.plan l.output l.areas;
  pair : pair_of l.writer ≡ pair_of l.fn.writer;
  kept : refusal_of l.writer ≡ None;
  low : neg_ℤ (pos 4294967296) ≤ℤ l.band.y0;
  high : l.band.y0 ≤ℤ pos 4294967296;
  uncounted : g.D.Depot.counts l.depot ≡ g.D.Depot.counts l.fn.depot;
}

abbrev pub decreases-loop-deck : goal.decreases-loop-deck
decreases-loop-deck g l = int_gap l.band.y0 l.rows.y1
