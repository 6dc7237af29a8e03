use Rattle.half_grid.specs.declared.border.Operand.TheVariants.{A, B}
use Rattle.column_sweep.specs.Operands.{edges_meeting}
use Rattle.column_sweep.specs.RowSums.{AddUpAlike}
use Rattle.column_sweep.proofs.Adding.{alike_refl, alike_trans, alike_append}
use Rattle.column_sweep.proofs.operands.edges_of_both.Goals as goal

pub returns : goal.returns
returns c =
    let first : AddUpAlike c.put_edges.new.edges.items (edges_meeting A c.args.window c.args.a.now) =
    rw c.new-edges.ensures.items at c.in_ok-put_edges.ensures in
    alike_trans _ _ _ c.in_ok-put_edges-2.ensures
    (alike_append c.put_edges.new.edges.items (edges_meeting A c.args.window c.args.a.now)
    (edges_meeting B c.args.window c.args.b.now) _ first (alike_refl (edges_meeting B c.args.window c.args.b.now)))
