use Rattle.active_lines.proofs.LeaningLemmas.{leans_where_it_meets, meets_where_it_leans}
use Rattle.active_lines.proofs.laws.leaning_law.Goals as goal

pub returns : goal.returns
returns c = λ l m j y less meet. (leans_where_it_meets l m j y less meet, meets_where_it_leans l m j y less meet)
