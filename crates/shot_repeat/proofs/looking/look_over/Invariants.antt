use Rattle.std.proofs.Common.{◌-◌, ℕ, length}
use Rattle.shot_repeat.specs.Progress.{IsStart, HasSeen}
use Rattle.shot_repeat.proofs.looking.look_over.Given as goal

abbrev pub invariant-loop-progress : goal.invariant-loop-progress
invariant-loop-progress l = (unit : ℕ) × IsStart l.fn.bytes unit l.fn.start × HasSeen l.fn.bytes unit l.progress l.count

abbrev pub decreases-loop-progress : goal.decreases-loop-progress
decreases-loop-progress l = length l.fn.bytes - l.progress.at
