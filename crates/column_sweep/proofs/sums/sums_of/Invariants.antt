use Rattle.std.proofs.Common.{ℤ, length}
use Rattle.column_sweep.specs.Steps.{AreSteps}
use Rattle.column_sweep.proofs.Stepping.{AreSummed, ArePaired}
use Rattle.column_sweep.proofs.sums.sums_of.Given as goal

-- the edges so far and the steps that are left are the whole
abbrev pub invariant-loop-rise : goal.invariant-loop-rise
invariant-loop-rise l = record {
  paired : ArePaired l.rising l.falling;
  summed : (sum : ℤ → ℤ) → AreSteps sum l.fn.steps.rises.items l.fn.steps.falls.items → AreSummed l.cut.x l.operand sum l.rising l.falling l.sums.items;
}

abbrev pub decreases-loop-rise : goal.decreases-loop-rise
decreases-loop-rise l = length l.rising
