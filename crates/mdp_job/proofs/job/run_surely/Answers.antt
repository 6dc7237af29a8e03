use Rattle.std.proofs.Common.{refl}
use Rattle.depot.proofs.ForCallers.{zero_stays}
use Rattle.mdp_job.proofs.job.run_surely.Goals as goal

pub returns-clause-accepted : goal.returns-clause-accepted
returns-clause-accepted c = λ memory. (c.run.ensures.accepts refl).all zero_stays zero_stays memory
