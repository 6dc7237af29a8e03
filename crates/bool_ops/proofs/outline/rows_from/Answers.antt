use Rattle.std.proofs.Common.{◌∷◌, take, sym, subst, arith}
use Rattle.std.proofs.lemmas.List.{take_more}
use Rattle.half_grid.specs.Windows.{row_range}
use Rattle.bool_ops.specs.Operations.{AreRowsOf}
use Rattle.bool_ops.proofs.RowsLemmas.{rows_grow}
use Rattle.bool_ops.proofs.outline.rows_from.Goals as goal

pub loop-p-preserved : goal.loop-p-preserved
loop-p-preserved c =
    let grown = rows_grow
    (c.args.first ∷ take c.loop-p.p-index c.args.rest.now) _ c.loop-p.rows.least c.loop-p.rows.greatest
    c.rows_with-rows.result.least c.rows_with-rows.result.greatest c.loop-p.invariant
    c.rows_with-rows.ensures.least c.rows_with-rows.ensures.greatest in
    subst (λ xs. AreRowsOf (c.args.first ∷ xs)
    (row_range c.rows_with-rows.result.least c.rows_with-rows.result.greatest))
    (sym (take_more c.args.rest.now c.loop-p.p-index _ (omega arith))) grown
