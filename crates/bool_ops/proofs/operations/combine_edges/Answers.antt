use Rattle.std.proofs.Common.{subst, ap, refl}
use Rattle.std.proofs.lemmas.Result.{IfOk-weaker}
use Rattle.bool_ops.specs.Operations.{IsWoundBy, IsJoinedOf}
use Rattle.bool_ops.proofs.TakingLemmas.{swept_wound}
use Rattle.bool_ops.proofs.operations.combine_edges.Goals as goal

pub returns : goal.returns
returns c =
    IfOk-weaker c.swept.result _ (λ traps. IsJoinedOf c.args.window (IsWoundBy c.args.op c.args.edges.items c.args.window) traps.items)
    (λ traps swept. subst
    (λ op. IsJoinedOf c.args.window (IsWoundBy op c.args.edges.items c.args.window) traps.items)
    (ap (λ rule. rule.0) c.new.ensures)
    (swept_wound c.new.result.0 c.args.window _ (λ x y r h. h) (λ x y. refl) c.args.edges.items traps.items swept))
    c.swept.ensures
