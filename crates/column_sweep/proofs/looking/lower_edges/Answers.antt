use Rattle.column_sweep.proofs.LookedColumns.{filtered_add_up}
use Rattle.column_sweep.proofs.looking.lower_edges.Goals as goal

pub returns : goal.returns
returns c = filtered_add_up c.args.rows _ _ (rw c.as_slice.ensures.value at c.in_ok-some.ensures)
