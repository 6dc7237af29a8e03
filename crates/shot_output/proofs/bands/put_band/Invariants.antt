use Rattle.std.proofs.Common.{◌≡◌, None, List, IsTrue, IsSome}
use Rattle.half_grid.specs.Trapezoids.{Trapezoid}
use Rattle.depot.specs.Content.{with_written}
use Rattle.shot_writer.specs.Writing.{AreSumsAfter, records_of}
use Rattle.shot_writer.specs.WriterView.{pair_of, sums_of, refusal_of}
use Rattle.band_areas.specs.Parts.{AreAreasOf}
use Rattle.band_areas.specs.Strips.{HasGiven, left_in}
use Rattle.shot_output.specs.Bands.{band_shots}
use Rattle.shot_output.proofs.bands.put_band.Given as goal

-- the shots of what was given were put
abbrev pub invariant-loop-strips : goal.invariant-loop-strips
invariant-loop-strips g l = record {
  given : List Trapezoid;
  has : HasGiven l.plan l.output l.strips given;
  band : l.strips.band ≡ l.fn.band;
  content : IsTrue g.D.Depot.tells → g.D.Depot.content l.depot
      ≡ with_written (g.D.Depot.content l.fn.depot) (records_of (pair_of l.fn.writer) (band_shots l.plan given));
  summed : AreSumsAfter (sums_of l.fn.writer) (band_shots l.plan given) (sums_of l.writer);
  areas : AreAreasOf l.plan l.output l.areas;
  pair : pair_of l.writer ≡ pair_of l.fn.writer;
  kept : refusal_of l.writer ≡ None;
  current : IsTrue g.D.Depot.tells → IsSome (g.D.Depot.content l.depot).current;
  uncounted : g.D.Depot.counts l.depot ≡ g.D.Depot.counts l.fn.depot;
}

abbrev pub decreases-loop-strips : goal.decreases-loop-strips
decreases-loop-strips g l = left_in l.strips
