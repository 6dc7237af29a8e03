use Rattle.std.proofs.Common.{◌≡◌, ◌++◌, drop}
use Rattle.std.specs.List.{flat_map}
use Rattle.half_grid.specs.Edges.{edges_of_trapezoid}
use Rattle.half_grid.specs.declared.border.Operand.TheVariants.{A}
use Rattle.column_sweep.proofs.seams.edges_of.Given as goal

abbrev pub invariant-loop-trap : goal.invariant-loop-trap
invariant-loop-trap l = l.edges.items ++ flat_map (edges_of_trapezoid A) (drop l.trap-index l.traps) ≡ flat_map (edges_of_trapezoid A) l.traps
