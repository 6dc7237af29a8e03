use Rattle.std.proofs.Common.{◌≡◌}
use Rattle.column_sweep.specs.Cutting.{in_rows_of}
use Rattle.column_sweep.proofs.CutLemmas.{changed_up_to}
use Rattle.column_sweep.proofs.cutting.cut_to.Given as goal

-- so many edges were cut
abbrev pub invariant-loop-n : goal.invariant-loop-n
invariant-loop-n l = l.edges.items ≡ changed_up_to (in_rows_of l.window) l.n l.fn.edges.items
