use Rattle.bench.proofs.agreeing.taken_by.Goals as goal

pub swept_by-requires-clause-balanced : goal.swept_by-requires-clause-balanced
swept_by-requires-clause-balanced c = c.in_ok-edges.ensures.balanced c.args.window

pub swept_by-requires-in-And-clause-balanced : goal.swept_by-requires-in-And-clause-balanced
swept_by-requires-in-And-clause-balanced c = c.in_ok-edges.ensures.balanced c.args.window

pub swept_by-requires-in-Sub-clause-balanced : goal.swept_by-requires-in-Sub-clause-balanced
swept_by-requires-in-Sub-clause-balanced c = c.in_ok-edges.ensures.balanced c.args.window
