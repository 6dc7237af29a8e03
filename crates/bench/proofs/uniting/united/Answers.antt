use Rattle.bench.proofs.uniting.united.Goals as goal

pub swept_counted-requires-clause-balanced : goal.swept_counted-requires-clause-balanced
swept_counted-requires-clause-balanced c = c.in_ok-edges.ensures.balanced c.args.window

pub begin-requires-clause-balanced : goal.begin-requires-clause-balanced
begin-requires-clause-balanced c = c.in_ok-edges.ensures.balanced c.args.window

pub swept-requires-clause-balanced : goal.swept-requires-clause-balanced
swept-requires-clause-balanced c = c.in_ok-edges.ensures.balanced c.args.window
