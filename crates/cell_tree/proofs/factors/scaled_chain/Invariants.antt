use Rattle.std.proofs.Common.{◌≡◌, ◌*◌, ◌<◌, ◌≤◌, List, Some, None, length, get_or}
use Rattle.cell_tree.specs.Chains.{Link, IsChain, chain_cells, chain_end, chain_factor}
use Rattle.cell_tree.specs.declared.factors.Far.{Far}
use Rattle.cell_tree.proofs.factors.scaled_chain.Given as goal

-- so far a chain from the top, from whose last cell a chain leads on to a factor above 16
abbrev pub invariant-loop-step : goal.invariant-loop-step
invariant-loop-step l = (links : List Link) × IsChain l.linked.cells l.top links × (l.cells.items ≡ chain_cells l.top links) × (chain_end l.top links ≡ l.cell)
    × (length links ≡ l._step) × (l.factor ≡ chain_factor links) × (l.factor ≤ 16) × (l.cell < length l.linked.cells)
    × ((far : Far) × (get_or l.farthest l.cell None ≡ Some far) × (17 ≤ l.factor * far.factor))
