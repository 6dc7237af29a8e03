use Rattle.std.proofs.Common.{◌∙◌}
use Rattle.column_sweep.proofs.Stitching.{permuted_sewn, permuted_count, sorted_joined}
use Rattle.column_sweep.proofs.seams.joined_seams.Goals as goal

pub loop-sewn-preserved : goal.loop-sewn-preserved
loop-sewn-preserved c = record { sewn = c.in_ok-sewn.ensures.sewn; same = λ t. c.in_ok-sewn.ensures.same t ∙ c.loop-sewn.invariant.same t }

pub returns-clause-joined : goal.returns-clause-joined
returns-clause-joined c = sorted_joined c.args.window _
    (permuted_sewn c.args.window _ _ c.put_in_order.ensures.permutation c.in_ok-swept.ensures.sewn)
    c.in_ok-put_in_order.ensures.sorted

pub returns-clause-same : goal.returns-clause-same
returns-clause-same c = λ t. permuted_count _ _ t c.put_in_order.ensures.permutation ∙ (c.in_ok-swept.ensures.same t ∙ c.loop-sewn.invariant.same t)
