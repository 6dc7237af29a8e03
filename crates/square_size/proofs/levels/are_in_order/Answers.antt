use Rattle.square_size.proofs.LevelOrder.{order_of_one_more, whole_order}
use Rattle.square_size.proofs.levels.are_in_order.Goals as goal

pub loop-k-preserved : goal.loop-k-preserved
loop-k-preserved c =
    let next = c.is_no_later.ensures c.if-not-is_no_later.false in
    order_of_one_more c.args.levels.now c.loop-k.k _ c.loop-k.auto.k c.loop-k-test.true c.loop-k.invariant next

pub returns : goal.returns
returns c = λ yes. whole_order c.args.levels.now c.loop-k.k c.loop-k-test.false c.loop-k.invariant
