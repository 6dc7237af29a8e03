use Rattle.std.proofs.Common.{◌≡◌, ◌++◌, take, IsTrue}
use Rattle.depot.specs.Counts.{NeverFall}
use Rattle.depot.specs.Printing.{IsSaidButFor}
use Rattle.job_report.specs.Pieces.{names_text}
use Rattle.job_report.proofs.saying.put_names.Given as goal

abbrev pub invariant-loop-name : goal.invariant-loop-name
invariant-loop-name g l = record {
  said : IsTrue g.D.Depot.tells
      → IsSaidButFor (g.D.Depot.content l.initial.depot) (l.initial.buffer ++ names_text (take l.name-index l.names)) l.buffer (g.D.Depot.content l.depot);
  uncounted : g.D.Depot.counts l.depot ≡ g.D.Depot.counts l.initial.depot;
  counted : NeverFall (g.D.Depot.counts l.initial.depot) (g.D.Depot.counts l.depot);
}
