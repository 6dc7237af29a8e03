use Rattle.std.proofs.Common.{All}
use Rattle.half_grid.specs.Reach.{IsPointWithinReach}
use Rattle.sweep_tests.proofs.scans.points_of.Given as goal

abbrev pub invariant-loop-x : goal.invariant-loop-x
invariant-loop-x l = All IsPointWithinReach l.points.items
