use Rattle.density_map.proofs.LawLemmas.{each_once, no_other, sum_of_own, one_more}
use Rattle.density_map.proofs.laws.count_laws.Goals as goal

pub returns : goal.returns
returns c = record { once = each_once; never = no_other; sum = sum_of_own; more = one_more }
