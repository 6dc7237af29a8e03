use Rattle.std.proofs.lemmas.Result.{IfOk-weaker}
use Rattle.bool_ops.specs.Operations.{IsInResult, IsJoinedOf}
use Rattle.bool_ops.proofs.TakingLemmas.{wound_result}
use Rattle.bool_ops.proofs.operations.combine.Goals as goal

pub combine_edges-requires : goal.combine_edges-requires
combine_edges-requires c = c.in_ok-edges.ensures.balanced c.args.window

pub returns : goal.returns
returns c =
    IfOk-weaker c.combine_edges.result _ (λ traps. IsJoinedOf c.args.window (IsInResult c.args.op c.args.a.now c.args.b.now c.args.window) traps.items)
    (λ traps. wound_result c.args.op c.args.a.now c.args.b.now c.args.window c.in_ok-edges.edges.items
    c.in_ok-edges.ensures.a c.in_ok-edges.ensures.b traps.items)
    c.combine_edges.ensures
