use Rattle.std.proofs.Common.{◌-◌, length}
use Rattle.cell_tree.specs.Cells.{placements_at}
use Rattle.flat_walk.specs.Rests.{Skips}
use Rattle.flat_walk.specs.Ways.{cells_of, level_rest, IsLevel, IsSamePlace}
use Rattle.flat_walk.proofs.levels.Level.next.Given as goal

abbrev pub invariant-loop-found : goal.invariant-loop-found
invariant-loop-found l = record {
  level : IsLevel l.scene l.self;
  skips : Skips l.scene.window (level_rest l.scene l.fn.self) (level_rest l.scene l.self);
  same : IsSamePlace l.fn.self l.self;
}

abbrev pub decreases-loop-found : goal.decreases-loop-found
decreases-loop-found l = length (placements_at (cells_of l.scene) l.self.cell) - l.self.next
