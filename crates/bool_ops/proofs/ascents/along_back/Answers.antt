use Rattle.std.proofs.Common.{◌-◌, refl, arith}
use Rattle.bool_ops.specs.Monotone.{twice_round}
use Rattle.bool_ops.proofs.AscentLemmas.{along_step_back}
use Rattle.bool_ops.proofs.ascents.along_back.Goals as goal

pub loop-at-preserved : goal.loop-at-preserved
loop-at-preserved c = record {
  after = omega (arith, c.loop-at-test.true);
  before = omega (arith, c.loop-at.invariant.before);
  along = along_step_back (twice_round c.args.points.now) c.args.line c.args.from c.loop-at.at (c.loop-at.at - 1)
      c.point_at.result c.point_at-in-loop-at.result (omega (arith, c.loop-at-test.true)) c.loop-at.invariant.along
      (omega (arith, c.loop-at.invariant.before, c.requires.within)) c.point_at.ensures c.point_at-in-loop-at.ensures
      (c.if-goes_on.ensures.passes refl) (c.if-goes_on.ensures.up refl);
}
