use Rattle.std.proofs.Common.{ℕ, ◌<◌}
use Rattle.cell_tree.specs.Searches.{IsStop}
use Rattle.cell_tree.proofs.orders.place_on.Given as goal

abbrev pub invariant-loop-i : goal.invariant-loop-i
invariant-loop-i l = (k : ℕ) → k < l.i → IsStop l.path k l.cell → ⊥
