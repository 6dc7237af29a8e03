use Rattle.trap_join.proofs.Merging.{lengths_differ}
use Rattle.trap_join.proofs.merge.all_go_on.Goals as goal

pub returns-then-front-runs-clause-value : goal.returns-then-front-runs-clause-value
returns-then-front-runs-clause-value c = lengths_differ _ _ c.if-front-runs.true
