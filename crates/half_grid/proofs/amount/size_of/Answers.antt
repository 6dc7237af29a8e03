use Rattle.std.proofs.Common.{rules}
use Rattle.half_grid.proofs.SizeLemmas.{size_is}
use Rattle.half_grid.proofs.amount.size_of.Goals as goal

pub returns-clause-tiles : goal.returns-clause-tiles
returns-clause-tiles c = size_is c.args.trap.now _ c.top_of.ensures.shot.legal (search rules)
