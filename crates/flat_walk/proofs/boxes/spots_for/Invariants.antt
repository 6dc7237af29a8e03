use Rattle.std.proofs.Common.{length, ◌-◌}
use Rattle.cell_tree.specs.Cells.{placements_at}
use Rattle.cell_tree.specs.Chains.{IsReachable}
use Rattle.flat_walk.specs.Boxes.{AreNear, AreSpots}
use Rattle.flat_walk.proofs.boxes.spots_for.Given as goal

abbrev pub invariant-loop-boxes : goal.invariant-loop-boxes
invariant-loop-boxes l = record {
  near : AreNear l.boxes.items;
  around : IsReachable l.tree.layout.cells l.tree.top l.cell → AreSpots l.tree.layout.cells (placements_at l.tree.layout.cells l.cell) l.boxes.items;
}

abbrev pub decreases-loop-boxes : goal.decreases-loop-boxes
decreases-loop-boxes l = l.count - length l.boxes.items
