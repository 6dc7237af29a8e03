use Rattle.half_grid.specs.Windows.{RowRange}
use Rattle.scan_line.specs.Runs.{IsBalanced}
use Rattle.sweep_tests.proofs.scans.edges_of.Given as goal

abbrev pub invariant-loop-part : goal.invariant-loop-part
invariant-loop-part g l = (window : RowRange) → IsBalanced l.edges.items window
