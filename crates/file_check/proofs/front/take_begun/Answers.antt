use Rattle.file_check.proofs.Passing.{one_taken}
use Rattle.file_check.proofs.front.take_begun.Goals as goal

pub loop-trap-preserved : goal.loop-trap-preserved
loop-trap-preserved c = one_taken _ _ _ _ _ _ c.in-Some.trap.now c.loop-trap.invariant c.in-Some.ensures.cases.0 c.in_ok-push.ensures.items
