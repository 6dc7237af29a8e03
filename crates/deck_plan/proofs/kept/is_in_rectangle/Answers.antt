use Rattle.std.proofs.Common.{sym, arith}
use Rattle.deck_plan.proofs.KeptLemmas.{all_in_rectangle}
use Rattle.deck_plan.proofs.kept.is_in_rectangle.Goals as goal

pub returns-in-Some : goal.returns-in-Some
returns-in-Some c = λ told.
    all_in_rectangle c.in-Some.frame c.args.traps.now c.args.others.now c.index-others-0.result (c.has_all.ensures told) c.in-Some.ensures
    (0, omega (arith, c.if-others-ne1.false), sym c.index-others-0.is)
