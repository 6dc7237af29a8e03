use Rattle.column_sweep.proofs.Stepping.{sums_both}
use Rattle.column_sweep.proofs.sums.row_sums.Goals as goal

pub returns : goal.returns
returns c = rw (c.in_ok-extend_from_slice.ensures.items, c.as_slice.ensures.value)
    (sums_both c.args.cut.x c.args.edges.now _ _ c.in_ok-sums.ensures c.in_ok-others.ensures)
