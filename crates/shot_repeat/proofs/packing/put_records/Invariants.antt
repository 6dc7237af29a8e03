use Rattle.std.proofs.Common.{◌≡◌, ◌≤◌, ◌-◌, IsTrue, length}
use Rattle.depot.specs.Counts.{NeverFall}
use Rattle.shot_repeat.proofs.Written.{WrittenSoFar}
use Rattle.shot_repeat.proofs.packing.put_records.Given as goal

abbrev pub invariant-loop-at : goal.invariant-loop-at
invariant-loop-at g l = record {
  within : l.at ≤ length l.fn.shots;
  few : l.records ≤ l.at;
  written : WrittenSoFar (IsTrue g.D.Depot.tells)
      (g.D.Depot.content l.initial.depot) l.fn.pair.layer l.fn.pair.datatype l.fn.shots l.at l.last l.records l.buffer
      (g.D.Depot.content l.depot);
  uncounted : g.D.Depot.counts l.depot ≡ g.D.Depot.counts l.initial.depot;
  counted : NeverFall (g.D.Depot.counts l.initial.depot) (g.D.Depot.counts l.depot);
}

abbrev pub decreases-loop-at : goal.decreases-loop-at
decreases-loop-at g l = length l.fn.shots - l.at
