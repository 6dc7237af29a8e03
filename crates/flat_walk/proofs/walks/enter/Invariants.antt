use Rattle.std.proofs.Common.{◌≡◌, length, vec_capacity}
use Rattle.flat_walk.specs.Rests.{Skips}
use Rattle.flat_walk.specs.Ways.{levels_rest, AreLevels}
use Rattle.flat_walk.proofs.walks.enter.Given as goal

abbrev pub invariant-loop-level : goal.invariant-loop-level
invariant-loop-level l = record {
  levels : AreLevels l.scene 0 l.levels.items;
  room : vec_capacity l.levels ≡ vec_capacity l.fn.levels;
  skips : Skips l.scene.window (levels_rest l.scene l.fn.levels.items) (levels_rest l.scene l.levels.items);
}

abbrev pub decreases-loop-level : goal.decreases-loop-level
decreases-loop-level l = length l.levels.items
