use Rattle.std.proofs.Common.{◌-◌, refl, arith}
use Rattle.bool_ops.specs.Monotone.{twice_round}
use Rattle.bool_ops.proofs.AscentLemmas.{level_step_back}
use Rattle.bool_ops.proofs.ascents.level_back.Goals as goal

pub loop-at-preserved : goal.loop-at-preserved
loop-at-preserved c = record {
  after = omega (arith, c.loop-at-test.true);
  before = omega (arith, c.loop-at.invariant.before);
  level = level_step_back (twice_round c.args.points.now) c.args.from c.loop-at.at (c.loop-at.at - 1) c.point_at-first.result c.point_at.result
      (omega (arith, c.loop-at-test.true)) c.loop-at.invariant.level (omega (arith, c.loop-at.invariant.before, c.requires.within))
      c.point_at-first.ensures c.point_at.ensures (c.if-are_level.ensures refl);
}
