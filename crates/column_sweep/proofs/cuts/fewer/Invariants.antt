use Rattle.std.proofs.Common.{◌+◌, ◌*◌, ◌≤◌, length}
use Rattle.column_sweep.proofs.cuts.fewer.Given as goal

abbrev pub invariant-loop-left : goal.invariant-loop-left
invariant-loop-left l = 8 * length l.some.items + length l.left ≤ length l.fn.cuts

abbrev pub decreases-loop-left : goal.decreases-loop-left
decreases-loop-left l = length l.left
