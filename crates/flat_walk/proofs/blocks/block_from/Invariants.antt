use Rattle.std.proofs.Common.{◌≤◌, ◌<◌, ◌-◌, ◌^◌}
use Rattle.cell_tree.specs.Boxes.{IsBoxUpTo}
use Rattle.flat_walk.specs.Blocks.{IsRoundThose}
use Rattle.flat_walk.proofs.blocks.block_from.Given as goal

abbrev pub invariant-loop-next : goal.invariant-loop-next
invariant-loop-next l = record {
  later : l.start < l.next;
  inside : l.next ≤ l.end;
  around : IsRoundThose l.boxes l.start l.next l.around;
  near : IsBoxUpTo (2 ^ 53) l.around;
}

abbrev pub decreases-loop-next : goal.decreases-loop-next
decreases-loop-next l = l.end - l.next
