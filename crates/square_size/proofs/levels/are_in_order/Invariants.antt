use Rattle.square_size.proofs.LevelOrder.{AreInOrderTo}
use Rattle.square_size.proofs.levels.are_in_order.Given as goal

abbrev pub invariant-loop-k : goal.invariant-loop-k
invariant-loop-k l = AreInOrderTo l.levels l.k
