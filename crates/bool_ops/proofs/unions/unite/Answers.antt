use Rattle.std.proofs.Common.{refl}
use Rattle.std.proofs.lemmas.Result.{IfOk-weaker}
use Rattle.bool_ops.specs.Operations.{IsWoundIn, IsJoinedOf}
use Rattle.bool_ops.proofs.TakingLemmas.{swept_union}
use Rattle.bool_ops.proofs.unions.unite.Goals as goal

pub returns : goal.returns
returns c =
    IfOk-weaker c.swept.result _ (λ traps. IsJoinedOf c.args.window (IsWoundIn c.args.edges.items c.args.window) traps.items)
    (λ traps. swept_union c.args.window _ (λ x y r h. h) (λ x y. refl) c.args.edges.items traps.items)
    c.swept.ensures
