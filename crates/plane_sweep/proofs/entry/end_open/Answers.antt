use Rattle.plane_sweep.proofs.EnterSteps.{maybe_alike}
use Rattle.plane_sweep.proofs.entry.end_open.Goals as goal

pub returns-in_default-clause-alike : goal.returns-in_default-clause-alike
returns-in_default-clause-alike c = maybe_alike _ _ _ c.reopen.result c.reopen.ensures.some c.reopen.ensures.same

pub returns-clause-alike : goal.returns-clause-alike
returns-clause-alike c = maybe_alike _ _ _ c.reopen.result c.reopen.ensures.some c.reopen.ensures.same
