use Rattle.std.proofs.Common.{All}
use Rattle.flat_walk.specs.Rests.{Skips, IsMarkedQuad}
use Rattle.flat_walk.specs.Hands.{own_rest, IsOwn, steps_left}
use Rattle.flat_walk.proofs.owned.Own.next.Given as goal

abbrev pub invariant-loop-quad : goal.invariant-loop-quad
invariant-loop-quad l = record {
  own : IsOwn l.self;
  skips : Skips l.window (own_rest l.pair l.fn.self) (own_rest l.pair l.self);
  quads : All IsMarkedQuad (own_rest l.pair l.self);
}

abbrev pub decreases-loop-quad : goal.decreases-loop-quad
decreases-loop-quad l = steps_left l.self.cursor
