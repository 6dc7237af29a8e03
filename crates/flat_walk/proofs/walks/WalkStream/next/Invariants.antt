use Rattle.std.proofs.Common.{◌≡◌, length, All, vec_capacity}
use Rattle.flat_walk.specs.Rests.{Skips, IsMarkedQuad}
use Rattle.flat_walk.specs.Hands.{IsOwn}
use Rattle.flat_walk.specs.Ways.{AreLevels}
use Rattle.flat_walk.specs.Streams.{rest_of}
use Rattle.flat_walk.proofs.walks.WalkStream.next.Given as goal

abbrev pub invariant-loop-quad : goal.invariant-loop-quad
invariant-loop-quad l = record {
  scene : l.self.scene ≡ l.fn.self.scene;
  own : IsOwn l.self.own;
  levels : AreLevels l.fn.self.scene 0 l.self.levels.items;
  room : vec_capacity l.self.levels ≡ vec_capacity l.fn.self.levels;
  quads : All IsMarkedQuad (rest_of l.fn.self.scene l.self.own l.self.levels.items);
  skips : Skips l.fn.self.scene.window (rest_of l.fn.self.scene l.fn.self.own l.fn.self.levels.items) (rest_of l.fn.self.scene l.self.own l.self.levels.items);
}

abbrev pub decreases-loop-quad : goal.decreases-loop-quad
decreases-loop-quad l = length (rest_of l.self.scene l.self.own l.self.levels.items)
