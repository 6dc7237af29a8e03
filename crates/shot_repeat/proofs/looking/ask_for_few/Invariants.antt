use Rattle.std.proofs.Common.{◌-◌, length}
use Rattle.shot_repeat.proofs.Asks.{Asked}
use Rattle.shot_repeat.proofs.looking.ask_for_few.Given as goal

abbrev pub invariant-loop-next : goal.invariant-loop-next
invariant-loop-next l = Asked l.fn.bytes l.fn.at l.next l.total

abbrev pub decreases-loop-next : goal.decreases-loop-next
decreases-loop-next l = length l.fn.bytes - l.next
