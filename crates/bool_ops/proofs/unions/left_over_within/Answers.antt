use Rattle.std.proofs.Common.{refl}
use Rattle.bool_ops.proofs.TakingLemmas.{swept_left}
use Rattle.bool_ops.proofs.unions.left_over_within.Goals as goal

pub returns-in-Some-clause-joined : goal.returns-in-Some-clause-joined
returns-in-Some-clause-joined c =
    swept_left c.args.window _ (λ x y r h. h) (λ x y. refl) c.args.edges.items c.in-Some.traps.items (rw c.in-Some.is at c.in_ok-traps.ensures.swept)
