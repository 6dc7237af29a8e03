use Rattle.std.proofs.Common.{◌≡◌, ◌+◌, ◌<◌, List, length, get_or}
use Rattle.cell_tree.specs.Chains.{Link, IsChain, chain_cells, chain_end}
use Rattle.cell_tree.proofs.heights.deep_chain.Given as goal

-- so far a chain from the top, whose last cell is tall
abbrev pub invariant-loop-done : goal.invariant-loop-done
invariant-loop-done l = (links : List Link) × IsChain l.linked.cells l.top links × (l.chain.items ≡ chain_cells l.top links) × (chain_end l.top links ≡ l.cell)
    × (length links + 1 ≡ l.done) × (65 < get_or l.heights l.cell 0 + l.done) × (l.cell < length l.linked.cells)
