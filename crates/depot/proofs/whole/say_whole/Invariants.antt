use Rattle.std.proofs.Common.{length, ◌-◌, ◌≡◌, ◌≤◌, IsTrue, take}
use Rattle.depot.specs.Content.{with_said}
use Rattle.depot.specs.Counts.{NeverFall}
use Rattle.depot.proofs.whole.say_whole.Given as goal

abbrev pub invariant-loop-done : goal.invariant-loop-done
invariant-loop-done g l = record {
  within : l.done ≤ length l.bytes;
  content : IsTrue g.D.Depot.tells → g.D.Depot.content l.depot ≡ with_said (g.D.Depot.content l.initial.depot) (take l.done l.bytes);
  uncounted : g.D.Depot.counts l.depot ≡ g.D.Depot.counts l.initial.depot;
  counted : NeverFall (g.D.Depot.counts l.initial.depot) (g.D.Depot.counts l.depot);
}

abbrev pub decreases-loop-done : goal.decreases-loop-done
decreases-loop-done g l = length l.bytes - l.done
