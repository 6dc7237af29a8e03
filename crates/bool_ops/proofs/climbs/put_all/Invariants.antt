use Rattle.std.proofs.Common.{◌-◌}
use Rattle.bool_ops.specs.Monotone.{twice_round, IsClimb}
use Rattle.bool_ops.proofs.ClimbLemmas.{IsDone}
use Rattle.bool_ops.proofs.climbs.put_all.Given as goal

-- the outline is covered up to where both ways begin
abbrev pub invariant-loop-climb : goal.invariant-loop-climb
invariant-loop-climb l = record {
  climb : IsClimb (twice_round l.fn.points) l.climb;
  done : IsDone l.fn.points l.climb l.climb.from l.traps.items;
}

abbrev pub decreases-loop-climb : goal.decreases-loop-climb
decreases-loop-climb l = l.climb.back.at - l.climb.ahead.at
