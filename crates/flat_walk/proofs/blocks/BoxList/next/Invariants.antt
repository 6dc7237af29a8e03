use Rattle.std.proofs.Common.{◌≤◌, ◌<◌, ◌-◌, length}
use Rattle.flat_walk.specs.Blocks.{ShowNothing}
use Rattle.flat_walk.proofs.blocks.BoxList.next.Given as goal

abbrev pub invariant-loop-next : goal.invariant-loop-next
invariant-loop-next l = record {
  later : l.from ≤ l.next;
  inside : l.from < l.next → l.next ≤ length l.self;
  none : ShowNothing l.window l.orient l.at l.self l.from l.next;
}

abbrev pub decreases-loop-next : goal.decreases-loop-next
decreases-loop-next l = length l.self - l.next
