use Rattle.square_size.proofs.NearLaw.{near_by_strips}
use Rattle.square_size.proofs.laws.near_law.Goals as goal

pub returns : goal.returns
returns c = near_by_strips
