use Rattle.std.proofs.Common.{rules}
use Rattle.cell_tree.proofs.BoxLemmas.{enlarged_up_to}
use Rattle.cell_tree.proofs.boxes.enlarged.Goals as goal

pub returns-clause-small : goal.returns-clause-small
returns-clause-small c = enlarged_up_to c.args.mag c.args.a _ c.requires.mag c.requires.a (search rules)
