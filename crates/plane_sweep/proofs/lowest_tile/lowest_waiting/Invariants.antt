use Rattle.std.proofs.Common.{◌≡◌, ◌++◌, List, length}
use Rattle.half_grid.specs.Trapezoids.{Trapezoid}
use Rattle.plane_sweep.specs.Lowest.{IsFirstOfAll}
use Rattle.plane_sweep.proofs.lowest_tile.lowest_waiting.Given as goal

-- what was found is the lowest of those that were taken
abbrev pub invariant-loop-trap : goal.invariant-loop-trap
invariant-loop-trap l = (done : List Trapezoid) × (l.initial.waiting.items ≡ done ++ l.waiting.items) × IsFirstOfAll done l.found

abbrev pub decreases-loop-trap : goal.decreases-loop-trap
decreases-loop-trap l = length l.waiting.items
