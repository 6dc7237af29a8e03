use Rattle.half_grid.proofs.JoinedLemmas.{one_joined_list}
use Rattle.half_grid.proofs.laws.joined_law.Goals as goal

pub returns : goal.returns
returns c = one_joined_list
