use Rattle.half_grid.proofs.ReachLemmas.{strip_within}
use Rattle.half_grid.proofs.rows.x_at.Goals as goal

pub x_near-requires-clause-line : goal.x_near-requires-clause-line
x_near-requires-clause-line c = strip_within c.args.line c.args.y c.requires.y c.requires.x
