use Rattle.scan_line.proofs.Opening.{stays_closed, stays_open, begins, ends}
use Rattle.scan_line.proofs.filling.turn.Goals as goal

pub returns-then-not-inside-clause-items : goal.returns-then-not-inside-clause-items
returns-then-not-inside-clause-items c = λ done run i. begins _ _ _ _ _ _ _ _ c.if-taken.true c.if-not-inside.true c.begin.ensures.items i

pub returns-else-not-inside-clause-items : goal.returns-else-not-inside-clause-items
returns-else-not-inside-clause-items c = λ done run i. stays_open _ _ _ _ _ _ _ c.if-taken.true c.if-not-inside.false i

pub returns-then-inside-clause-items : goal.returns-then-inside-clause-items
returns-then-inside-clause-items c = λ done run i. ends _ _ _ _ _ _ _ _ c.if-taken.false c.if-inside.true c.end.ensures.items i

pub returns-else-inside-clause-items : goal.returns-else-inside-clause-items
returns-else-inside-clause-items c = λ done run i. stays_closed _ _ _ _ _ _ _ c.if-taken.false c.if-inside.false i
