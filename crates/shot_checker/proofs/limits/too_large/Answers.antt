use Rattle.std.proofs.Common.{refl}
use Rattle.std.proofs.lemmas.Option.{slice_get_read}
use Rattle.shot_checker.proofs.FirstTooLarge.{fit_one_more, all_fit}
use Rattle.shot_checker.proofs.limits.too_large.Goals as goal

pub loop-k-preserved : goal.loop-k-preserved
loop-k-preserved c =
    fit_one_more c.args.limits.now c.args.shots.now c.loop-k.k c.index-shots-k.result
    (slice_get_read c.args.shots.now _ c.loop-k.k c.index-shots-k.result refl c.loop-k-test.true
    c.index-shots-k.is) (c.fits.ensures.0 c.if-not-fits.false) c.loop-k.invariant

pub returns-clause-none : goal.returns-clause-none
returns-clause-none c = all_fit c.args.limits.now c.args.shots.now c.loop-k.k c.loop-k-test.false c.loop-k.invariant
