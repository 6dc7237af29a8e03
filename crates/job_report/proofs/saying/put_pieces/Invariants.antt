use Rattle.std.proofs.Common.{◌≡◌, ◌++◌, take, IsTrue}
use Rattle.depot.specs.Counts.{NeverFall}
use Rattle.depot.specs.Printing.{IsSaidButFor}
use Rattle.job_report.specs.Pieces.{spelled}
use Rattle.job_report.proofs.saying.put_pieces.Given as goal

abbrev pub invariant-loop-piece : goal.invariant-loop-piece
invariant-loop-piece g l = record {
  said : IsTrue g.D.Depot.tells
      → IsSaidButFor (g.D.Depot.content l.initial.depot) (l.initial.buffer ++ spelled (take l.piece-index l.pieces)) l.buffer (g.D.Depot.content l.depot);
  uncounted : g.D.Depot.counts l.depot ≡ g.D.Depot.counts l.initial.depot;
  counted : NeverFall (g.D.Depot.counts l.initial.depot) (g.D.Depot.counts l.depot);
}
