use Rattle.std.proofs.Common.{length}
use Rattle.file_check.proofs.Passing.{TakenSoFar}
use Rattle.file_check.proofs.front.take_begun.Given as goal

abbrev pub invariant-loop-trap : goal.invariant-loop-trap
invariant-loop-trap l = TakenSoFar l.initial.into.items l.into.items l.later l.left

abbrev pub decreases-loop-trap : goal.decreases-loop-trap
decreases-loop-trap l = length l.left
