use Rattle.std.proofs.Common.{◌≡◌, ◌++◌, take, flat_map, IsTrue}
use Rattle.depot.specs.Counts.{NeverFall}
use Rattle.depot.specs.Printing.{IsSaidButFor}
use Rattle.density_report.specs.Rows.{counted_line}
use Rattle.density_report.proofs.saying.say_row.Given as goal

abbrev pub invariant-loop-counted : goal.invariant-loop-counted
invariant-loop-counted g l = record {
  said : IsTrue g.D.Depot.tells
      → IsSaidButFor (g.D.Depot.content l.initial.depot)
      (l.initial.buffer ++ flat_map (counted_line l.strip.row) (take l.counted-index l.counts)) l.buffer
      (g.D.Depot.content l.depot);
  uncounted : g.D.Depot.counts l.depot ≡ g.D.Depot.counts l.initial.depot;
  counted : NeverFall (g.D.Depot.counts l.initial.depot) (g.D.Depot.counts l.depot);
}
