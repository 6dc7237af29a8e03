use Rattle.std.proofs.Common.{◌<◌, ◌-◌, length}
use Rattle.bool_ops.proofs.climbs.lowest.Given as goal

abbrev pub invariant-loop-at : goal.invariant-loop-at
invariant-loop-at l = l.low < length l.points

abbrev pub decreases-loop-at : goal.decreases-loop-at
decreases-loop-at l = length l.points - l.at
