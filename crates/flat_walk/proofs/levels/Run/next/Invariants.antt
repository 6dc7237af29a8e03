use Rattle.std.proofs.Common.{◌≡◌, ◌-◌, Some, length}
use Rattle.flat_walk.specs.Rests.{Skips}
use Rattle.flat_walk.specs.Ways.{run_rest, IsRun}
use Rattle.flat_walk.proofs.levels.Run.next.Given as goal

abbrev pub invariant-loop-self : goal.invariant-loop-self
invariant-loop-self l = record {
  run : IsRun l.scene l.cell l.outer l.self;
  skips : Skips l.scene.window (run_rest l.scene l.outer l.at (Some l.fn.self)) (run_rest l.scene l.outer l.at (Some l.self));
  target : l.self.target ≡ l.fn.self.target;
  orient : l.self.orient ≡ l.fn.self.orient;
  placement : l.self.placement.now ≡ l.fn.self.placement.now;
}

abbrev pub decreases-loop-self : goal.decreases-loop-self
decreases-loop-self l = length l.self.placement.now.offsets - l.self.place
