use Rattle.deck_plan.proofs.KeptLemmas.{and_first, and_second}
use Rattle.deck_plan.proofs.kept.same_as.Goals as goal

pub returns-then-is_in_rectangle : goal.returns-then-is_in_rectangle
returns-then-is_in_rectangle c = λ t.
    rw c.in-And.is (and_first c.args.a.now c.args.b.now t (c.is_in_rectangle.ensures c.if-is_in_rectangle.true t))

pub returns-then-is_in_rectangle-2 : goal.returns-then-is_in_rectangle-2
returns-then-is_in_rectangle-2 c = λ t.
    rw c.in-And.is (and_second c.args.a.now c.args.b.now t (c.is_in_rectangle-else-is_in_rectangle.ensures c.if-is_in_rectangle-2.true t))
