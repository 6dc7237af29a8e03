use Rattle.std.proofs.Common.{◌≡◌, ◌≤◌, ◌*◌, ◌-◌, length}
use Rattle.flat_walk.specs.Blocks.{AreBlocks}
use Rattle.flat_walk.proofs.blocks.blocks_of.Given as goal

abbrev pub invariant-loop-start : goal.invariant-loop-start
invariant-loop-start l = record {
  start : l.start ≡ length l.blocks.items * 64;
  inside : l.start ≤ length l.boxes;
  blocks : AreBlocks l.boxes l.blocks.items;
}

abbrev pub decreases-loop-start : goal.decreases-loop-start
decreases-loop-start l = length l.boxes - l.start
