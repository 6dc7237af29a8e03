use Rattle.std.proofs.Common.{IsTrue}
use Rattle.depot.specs.Content.{ChangesLeftOnly}
use Rattle.explain.proofs.warning.warn_lines.Given as goal

abbrev pub invariant-loop-line : goal.invariant-loop-line
invariant-loop-line g l = IsTrue g.D.Depot.tells → ChangesLeftOnly (g.D.Depot.content l.fn.depot) (g.D.Depot.content l.depot)
