use Rattle.std.proofs.Common.{length}
use Rattle.column_sweep.specs.Steps.{AreSteps}
use Rattle.column_sweep.proofs.Stepping.{sum_so_far}
use Rattle.column_sweep.proofs.sums.steps_of.Given as goal

-- the steps have the sum of all but what is left
abbrev pub invariant-loop-edge : goal.invariant-loop-edge
invariant-loop-edge l = AreSteps (sum_so_far l.operand l.fn.edges l.left) l.steps.rises.items l.steps.falls.items

abbrev pub decreases-loop-edge : goal.decreases-loop-edge
decreases-loop-edge l = length l.left
