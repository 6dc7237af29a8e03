use Rattle.std.proofs.lemmas.List.Sorted.{IsPermutation-refl}
use Rattle.column_sweep.proofs.sweep.tried_plain.Goals as goal

pub returns-in-None : goal.returns-in-None
returns-in-None g c = IsPermutation-refl c.args.edges.items
