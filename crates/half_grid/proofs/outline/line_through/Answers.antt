use Rattle.half_grid.proofs.LineLemmas.{line_of_through, line_of_none}
use Rattle.half_grid.proofs.outline.line_through.Goals as goal

pub returns-clause-through : goal.returns-clause-through
returns-clause-through c = rw c.find_line.ensures (line_of_through c.args.a c.args.b)

pub returns-clause-none : goal.returns-clause-none
returns-clause-none c = rw c.find_line.ensures (line_of_none c.args.a c.args.b)
