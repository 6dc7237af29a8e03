use Rattle.layout_laws.proofs.trees.tree_law.Goals as goal
use Rattle.layout_laws.proofs.TreeLemmas.{faultless_is_tree}

pub returns : goal.returns
returns c = faultless_is_tree
