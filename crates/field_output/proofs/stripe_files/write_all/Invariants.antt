use Rattle.std.proofs.Common.{◌≡◌, IsTrue}
use Rattle.depot.specs.Counts.{NeverFall}
use Rattle.geo_stream.specs.Flattened.{end_to_end}
use Rattle.field_output.specs.Lists.{IsRoom, lists_from}
use Rattle.field_output.specs.Stripes.{sums_of, with_stripe_files}
use Rattle.field_output.proofs.stripe_files.write_all.Given as goal

-- the files of the stripes below this one are made, and their sums are kept
abbrev pub invariant-loop-place : goal.invariant-loop-place
invariant-loop-place g l = record {
  room : IsRoom l.base l.span.size l.span.first l.span.count l.shots l.place l.room;
  content : IsTrue g.D.Depot.tells → g.D.Depot.content l.depot ≡ with_stripe_files (g.D.Depot.content l.initial.depot) l.base l.head l.span.first
      (lists_from l.span.size l.shots l.span.first l.place);
  all : l.all ≡ sums_of (end_to_end (lists_from l.span.size l.shots l.span.first l.place));
  uncounted : g.D.Depot.counts l.depot ≡ g.D.Depot.counts l.initial.depot;
  counted : NeverFall (g.D.Depot.counts l.initial.depot) (g.D.Depot.counts l.depot);
}
