use Rattle.std.proofs.Common.{subst, ap, refl}
use Rattle.bool_ops.specs.Operations.{IsWoundBy, IsJoinedOf}
use Rattle.bool_ops.proofs.TakingLemmas.{swept_wound}
use Rattle.bool_ops.proofs.operations.combine_edges_within.Goals as goal

pub returns-in-Some-clause-joined : goal.returns-in-Some-clause-joined
returns-in-Some-clause-joined c = subst
    (λ op. IsJoinedOf c.args.window (IsWoundBy op c.args.edges.items c.args.window) c.in-Some.traps.items)
    (ap (λ rule. rule.0) c.new.ensures)
    (swept_wound c.new.result.0 c.args.window _ (λ x y r h. h) (λ x y. refl) c.args.edges.items
    c.in-Some.traps.items (rw c.in-Some.is at c.in_ok-traps.ensures.swept))
