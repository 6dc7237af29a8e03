use Rattle.std.proofs.Common.{length, ◌-◌}
use Rattle.flat_walk.specs.Boxes.{AreBoxed}
use Rattle.flat_walk.specs.EntryLists.{entries_in}
use Rattle.flat_walk.specs.Kept.{all_lists}
use Rattle.flat_walk.proofs.boxes.boxes_for.Given as goal

abbrev pub invariant-loop-boxes : goal.invariant-loop-boxes
invariant-loop-boxes l = AreBoxed l.shapes (all_lists (entries_in l.entries.list)) l.boxes.items

abbrev pub decreases-loop-boxes : goal.decreases-loop-boxes
decreases-loop-boxes l = l.count - length l.boxes.items
