use Rattle.std.proofs.Common.{◌≤◌, Some, map, length}
use Rattle.flat_walk.specs.Rests.{Skips}
use Rattle.flat_walk.specs.Hands.{shapes_left, cursor_list, IsCursor, steps_left}
use Rattle.flat_walk.proofs.owned.Cursor.pass_by.Given as goal

abbrev pub invariant-loop-shape : goal.invariant-loop-shape
invariant-loop-shape l = record {
  cursor : IsCursor l.self;
  skips : Skips l.window (map Some (cursor_list l.pair l.fn.self)) (map Some (cursor_list l.pair l.self));
  steps : steps_left l.self ≤ steps_left l.fn.self;
}

abbrev pub decreases-loop-shape : goal.decreases-loop-shape
decreases-loop-shape l = length (shapes_left l.self)
