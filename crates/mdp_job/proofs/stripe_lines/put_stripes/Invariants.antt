use Rattle.std.proofs.Common.{◌≡◌, ◌++◌, take, flat_map, IsTrue}
use Rattle.depot.specs.Counts.{NeverFall}
use Rattle.depot.specs.Printing.{IsSaidButFor}
use Rattle.mdp_job.specs.Splitting.{stripe_line}
use Rattle.mdp_job.proofs.stripe_lines.put_stripes.Given as goal

abbrev pub invariant-loop-stripe : goal.invariant-loop-stripe
invariant-loop-stripe g l = record {
  said : IsTrue g.D.Depot.tells
      → IsSaidButFor (g.D.Depot.content l.initial.depot)
      (l.initial.buffer ++ flat_map stripe_line (take l.stripe-index l.each)) l.buffer (g.D.Depot.content l.depot);
  uncounted : g.D.Depot.counts l.depot ≡ g.D.Depot.counts l.initial.depot;
  counted : NeverFall (g.D.Depot.counts l.initial.depot) (g.D.Depot.counts l.depot);
}
