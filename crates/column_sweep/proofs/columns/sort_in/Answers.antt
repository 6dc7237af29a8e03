use Rattle.column_sweep.proofs.Progressing.{behind_inside, behind_crossing}
use Rattle.column_sweep.proofs.columns.sort_in.Goals as goal

pub returns : goal.returns
returns c = λ traps finals seams h. rw c.in_ok-push-2.ensures.items
    (behind_crossing c.args.column.from.x c.args.column.to.x traps finals seams _ _ c.args.trap.now h)

pub returns-then-is_inside : goal.returns-then-is_inside
returns-then-is_inside c = λ traps finals seams h.
    rw c.in_ok-push.ensures.items
    (behind_inside c.args.column.from.x c.args.column.to.x traps finals seams _ _ c.args.trap.now h
    (c.is_inside.ensures c.if-is_inside.true))
