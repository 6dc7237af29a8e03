use Rattle.std.proofs.Common.{◌≤◌, ◌-◌, length}
use Rattle.layout_model.specs.Intervals.{HasNoneIn}
use Rattle.layout_model.proofs.offsets.first_of.Given as goal

abbrev pub invariant-loop-k : goal.invariant-loop-k
invariant-loop-k l = record {
  later : l.from ≤ l.k;
  none : HasNoneIn l.interval l.places l.from l.k;
}

abbrev pub decreases-loop-k : goal.decreases-loop-k
decreases-loop-k l = length l.places - l.k
