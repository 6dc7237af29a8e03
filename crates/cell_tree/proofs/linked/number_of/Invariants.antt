use Rattle.std.proofs.Common.{◌≡◌, ℕ, ◌<◌, nat_eq, false, [], get_or}
use Rattle.std.specs.Cmp.Lexicographic.{pointwise}
use Rattle.cell_tree.specs.Cells.{cell_names}
use Rattle.cell_tree.proofs.linked.number_of.Given as goal

abbrev pub invariant-loop-n : goal.invariant-loop-n
invariant-loop-n l = (k : ℕ) → k < l.n → pointwise nat_eq l.name (get_or (cell_names l.cells) k []) ≡ false
