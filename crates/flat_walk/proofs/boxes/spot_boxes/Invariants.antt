use Rattle.std.proofs.Common.{ℕ, length, ◌-◌}
use Rattle.cell_tree.specs.Cells.{placements_at}
use Rattle.cell_tree.specs.Chains.{IsReachable}
use Rattle.flat_walk.specs.Boxes.{AreSpots, boxes_at}
use Rattle.flat_walk.proofs.boxes.spot_boxes.Given as goal

-- the boxes of the cells before this one
abbrev pub invariant-loop-alloc : goal.invariant-loop-alloc
invariant-loop-alloc l = (n : ℕ) → IsReachable l.tree.layout.cells l.tree.top n
    → AreSpots l.tree.layout.cells (placements_at l.tree.layout.cells n) (boxes_at l.lists.items n)

abbrev pub decreases-loop-alloc : goal.decreases-loop-alloc
decreases-loop-alloc l = l.count - length l.lists.items
