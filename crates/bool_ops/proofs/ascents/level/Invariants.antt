use Rattle.std.proofs.Common.{◌≤◌, ◌-◌}
use Rattle.bool_ops.specs.Monotone.{twice_round, IsLevel}
use Rattle.bool_ops.proofs.ascents.level.Given as goal

-- the points so far have one Y
abbrev pub invariant-loop-at : goal.invariant-loop-at
invariant-loop-at l = record {
  after : l.fn.from ≤ l.at;
  before : l.at ≤ l.fn.to;
  level : IsLevel (twice_round l.fn.points) l.fn.from l.at;
}

abbrev pub decreases-loop-at : goal.decreases-loop-at
decreases-loop-at l = l.fn.to - l.at
