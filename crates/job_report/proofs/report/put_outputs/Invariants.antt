use Rattle.std.proofs.Common.{◌≡◌, ◌++◌, take, flat_map, length, IsTrue}
use Rattle.std.specs.List.{zip}
use Rattle.depot.specs.Counts.{NeverFall}
use Rattle.depot.specs.Printing.{IsSaidButFor}
use Rattle.job_report.specs.Report.{output_line}
use Rattle.job_report.proofs.report.put_outputs.Given as goal

abbrev pub invariant-loop-k : goal.invariant-loop-k
invariant-loop-k g l = record {
  said : IsTrue g.D.Depot.tells
      → IsSaidButFor (g.D.Depot.content l.initial.depot)
      (l.initial.buffer ++ flat_map (output_line l.word) (take l.k (zip l.outputs l.sums))) l.buffer
      (g.D.Depot.content l.depot);
  same : length l.outputs ≡ length l.sums;
  uncounted : g.D.Depot.counts l.depot ≡ g.D.Depot.counts l.initial.depot;
  counted : NeverFall (g.D.Depot.counts l.initial.depot) (g.D.Depot.counts l.depot);
}
