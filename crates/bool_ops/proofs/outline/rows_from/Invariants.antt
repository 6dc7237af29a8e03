use Rattle.std.proofs.Common.{take, ◌∷◌}
use Rattle.half_grid.specs.Windows.{row_range}
use Rattle.bool_ops.specs.Operations.{AreRowsOf}
use Rattle.bool_ops.proofs.outline.rows_from.Given as goal

abbrev pub invariant-loop-p : goal.invariant-loop-p
invariant-loop-p l = AreRowsOf (l.fn.first ∷ take l.p-index l.rest) (row_range l.rows.least l.rows.greatest)
