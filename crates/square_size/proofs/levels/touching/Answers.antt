use Rattle.square_size.proofs.levels.touching.Goals as goal

pub mark_all-requires-clause-order : goal.mark_all-requires-clause-order
mark_all-requires-clause-order c = rw (c.deref.ensures.value, ← c.deref-2.ensures.value) at c.are_in_order.ensures c.if-not-are_in_order.false
