use Rattle.std.proofs.Common.{IsTrue}
use Rattle.depot.specs.Content.{ChangesLeftOnly}
use Rattle.explain.proofs.pieces.take_started.Given as goal

abbrev pub invariant-loop-chunk : goal.invariant-loop-chunk
invariant-loop-chunk g l = IsTrue g.D.Depot.tells → ChangesLeftOnly (g.D.Depot.content l.fn.depot) (g.D.Depot.content l.depot)
