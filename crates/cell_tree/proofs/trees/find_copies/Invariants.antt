use Rattle.std.proofs.Common.{◌≡◌}
use Rattle.cell_tree.proofs.trees.find_copies.Given as goal

abbrev pub invariant-loop-cell : goal.invariant-loop-cell
invariant-loop-cell l = l.linked ≡ l.fn.linked
