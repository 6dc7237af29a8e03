use Rattle.column_sweep.proofs.Stitching.{covers_all}
use Rattle.column_sweep.proofs.sweep.swept_at.Goals as goal

pub returns-clause-swept : goal.returns-clause-swept
returns-clause-swept g c = record { joined = c.in_ok-whole.ensures.joined; covers = covers_all _ _ _ _ c.in_ok-whole.ensures.same c.in_ok-sewn.ensures.covers }
