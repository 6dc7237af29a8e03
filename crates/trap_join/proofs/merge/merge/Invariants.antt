use Rattle.std.proofs.Common.{length, ◌+◌, ◌-◌, ◌≤◌, ◌≡◌, map, ◌++◌, drop}
use Rattle.trap_join.specs.Fronts.{grown_into, ended}
use Rattle.trap_join.proofs.merge.merge.Given as goal

-- what was put, with what the rest of both lists gives, is the whole
abbrev pub invariant-loop-i : goal.invariant-loop-i
invariant-loop-i l = record {
  front : l.i ≤ length l.front;
  runs : l.k ≤ length l.runs;
  fresh : l.fresh.items ++ map (grown_into (drop l.i l.front) l.y) (drop l.k l.runs) ≡ l.initial.fresh.items ++ map (grown_into l.front l.y) l.runs;
  waiting : l.waiting.items ++ ended (drop l.k l.runs) l.y (drop l.i l.front) ≡ l.initial.waiting.items ++ ended l.runs l.y l.front;
}

abbrev pub decreases-loop-i : goal.decreases-loop-i
decreases-loop-i l = (length l.front - l.i) + (length l.runs - l.k)
