-- Windings and weights are at most the number of edges.
use Rattle.std.proofs.Common.{ℤ, pos, neg_ℤ, ◌≤ℤ◌, List, length, arith}
use Rattle.std.proofs.lemmas.Int.{ints}
use Rattle.std.proofs.lemmas.List.Sums.{count_by-le-length}
use Rattle.half_grid.specs.Edges.{EdgeParts, edges_winding, winds_up, winds_down}
use Rattle.half_grid.specs.declared.plane.Tile.{Tile}
use Rattle.half_grid.specs.declared.border.Operand.{Operand}
use Rattle.row_lists.specs.Weights.{weight, stands_up, stands_down}

pub winding_small : (o : Operand) (edges : List EdgeParts) (t : Tile)
    → (neg_ℤ (pos (length edges)) ≤ℤ edges_winding o edges t) × (edges_winding o edges t ≤ℤ pos (length edges))
unfolding edges_winding
winding_small o edges t =
    let up = count_by-le-length (winds_up o t) edges in
    let down = count_by-le-length (winds_down o t) edges in
    (omega (arith, ints, down), omega (arith, ints, up))

pub weight_small : (o : Operand) (edges : List EdgeParts) (j n : ℤ)
    → (neg_ℤ (pos (length edges)) ≤ℤ weight o edges j n) × (weight o edges j n ≤ℤ pos (length edges))
unfolding weight
weight_small o edges j n =
    let up = count_by-le-length (stands_up o j n) edges in
    let down = count_by-le-length (stands_down o j n) edges in
    (omega (arith, ints, down), omega (arith, ints, up))
