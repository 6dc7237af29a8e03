use Rattle.std.proofs.Common.{ℕ, length, ◌-◌}
use Rattle.cell_tree.specs.Cells.{shapes_at}
use Rattle.flat_walk.specs.Boxes.{AreBoxed, boxes_at}
use Rattle.flat_walk.specs.Tables.{lists_at}
use Rattle.flat_walk.proofs.boxes.shape_boxes.Given as goal

-- the boxes of the cells before this one
abbrev pub invariant-loop-alloc : goal.invariant-loop-alloc
invariant-loop-alloc l = (n : ℕ) → AreBoxed (shapes_at l.tree.layout.cells n) (lists_at l.parts n) (boxes_at l.lists.items n)

abbrev pub decreases-loop-alloc : goal.decreases-loop-alloc
decreases-loop-alloc l = l.count - length l.lists.items
