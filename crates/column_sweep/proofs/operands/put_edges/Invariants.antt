use Rattle.std.proofs.Common.{◌++◌, drop}
use Rattle.column_sweep.specs.Operands.{edges_meeting}
use Rattle.column_sweep.specs.RowSums.{AddUpAlike}
use Rattle.column_sweep.proofs.operands.put_edges.Given as goal

abbrev pub invariant-loop-trap : goal.invariant-loop-trap
invariant-loop-trap l =
    AddUpAlike (l.edges.items ++ edges_meeting l.operand l.window (drop l.trap-index l.traps))
    (l.initial.edges.items ++ edges_meeting l.operand l.window l.traps)
