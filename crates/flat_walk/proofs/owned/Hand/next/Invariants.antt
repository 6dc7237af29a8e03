use Rattle.std.proofs.Common.{All, Some, map, length}
use Rattle.half_grid.specs.Quads.{IsQuad}
use Rattle.flat_walk.specs.PieceLists.{listed}
use Rattle.flat_walk.specs.Rests.{Skips}
use Rattle.flat_walk.specs.Hands.{hand_list, IsHand}
use Rattle.flat_walk.proofs.owned.Hand.next.Given as goal

abbrev pub invariant-loop-corners : goal.invariant-loop-corners
invariant-loop-corners l = record {
  hand : IsHand l.self;
  skips : Skips l.window (map Some (hand_list l.fn.self)) (map Some (hand_list l.self));
  quads : All IsQuad (hand_list l.self);
}

abbrev pub decreases-loop-corners : goal.decreases-loop-corners
decreases-loop-corners l = length (listed l.self.pieces)
