use Rattle.std.proofs.Common.{◌-◌, ◌≡◌, ◌≤◌, ◌++◌, IsTrue, vec_len}
use Rattle.depot.specs.Content.{ChangesLeftOnly}
use Rattle.depot.specs.Counts.{NeverFall}
use Rattle.depot.proofs.whole.read_rest.Given as goal

abbrev pub invariant-loop-count : goal.invariant-loop-count
invariant-loop-count g l = record {
  within : vec_len l.bytes ≤ l.limit;
  given : IsTrue g.D.Depot.tells → l.bytes.items ++ (g.D.Depot.content l.depot).left ≡ l.initial.bytes.items ++ (g.D.Depot.content l.initial.depot).left;
  others : IsTrue g.D.Depot.tells → ChangesLeftOnly (g.D.Depot.content l.initial.depot) (g.D.Depot.content l.depot);
  uncounted : g.D.Depot.counts l.depot ≡ g.D.Depot.counts l.initial.depot;
  counted : NeverFall (g.D.Depot.counts l.initial.depot) (g.D.Depot.counts l.depot);
}

abbrev pub decreases-loop-count : goal.decreases-loop-count
decreases-loop-count g l = l.limit - vec_len l.bytes
