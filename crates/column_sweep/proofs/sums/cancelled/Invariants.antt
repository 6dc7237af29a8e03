use Rattle.std.proofs.Common.{ℤ, ◌++◌, ◌+◌, length}
use Rattle.column_sweep.specs.Steps.{AreSteps}
use Rattle.column_sweep.proofs.sums.cancelled.Given as goal

-- what was put aside and what is left have the same sums
abbrev pub invariant-loop-rise : goal.invariant-loop-rise
invariant-loop-rise l = (sum : ℤ → ℤ) → AreSteps sum l.rises l.falls → AreSteps sum (l.up.items ++ l.rising) (l.down.items ++ l.falling)

abbrev pub decreases-loop-rise : goal.decreases-loop-rise
decreases-loop-rise l = length l.rising + length l.falling
