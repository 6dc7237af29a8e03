use Rattle.depot.proofs.ForCallers.{zero_stays, sure_there}
use Rattle.depot.proofs.sure.nothing_fails.Goals as goal

pub returns : goal.returns
returns c = λ before now name. (zero_stays, zero_stays, sure_there before name)
