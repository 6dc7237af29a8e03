use Rattle.std.proofs.Common.{pos, ◌≡◌, ◌+ℤ◌, ◌-ℤ◌, ◌≤ℤ◌, length}
use Rattle.half_grid.specs.Edges.{edges_winding}
use Rattle.half_grid.specs.declared.plane.Tile.{Tile}
use Rattle.plane_sweep.specs.Lowest.{IsSpotOf}
use Rattle.plane_sweep.proofs.lowest_tile.winding_at.Given as goal

abbrev pub invariant-loop-edge : goal.invariant-loop-edge
invariant-loop-edge l = record {
  sum : (t : Tile) → IsSpotOf l.spot t → l.sum +ℤ edges_winding l.operand l.left t ≡ edges_winding l.operand l.edges t;
  low : (pos (length l.left) -ℤ l.sum) ≤ℤ pos (length l.edges);
  high : (pos (length l.left) +ℤ l.sum) ≤ℤ pos (length l.edges);
}

abbrev pub decreases-loop-edge : goal.decreases-loop-edge
decreases-loop-edge l = length l.left
