use Rattle.std.proofs.Common.{◌-◌, length}
use Rattle.shot_repeat.proofs.Numbers.{GoneOn}
use Rattle.shot_repeat.proofs.refusing.after_number.Given as goal

abbrev pub invariant-loop-next : goal.invariant-loop-next
invariant-loop-next l = GoneOn l.fn.bytes l.fn.at l.next

abbrev pub decreases-loop-next : goal.decreases-loop-next
decreases-loop-next l = length l.fn.bytes - l.next
