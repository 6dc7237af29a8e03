use Rattle.std.proofs.Common.{◌≡◌, ◌++◌, length}
use Rattle.plane_sweep.proofs.stop.give.Given as goal

abbrev pub invariant-loop-trap : goal.invariant-loop-trap
invariant-loop-trap l = record {
  waiting : l.front.waiting.items ++ l.front.ended.items ≡ l.initial.front.waiting.items ++ l.initial.front.ended.items;
  lines : l.front.lines ≡ l.initial.front.lines;
}

abbrev pub decreases-loop-trap : goal.decreases-loop-trap
decreases-loop-trap l = length l.front.ended.items
