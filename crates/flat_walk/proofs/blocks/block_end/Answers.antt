use Rattle.std.proofs.Common.{arith}
use Rattle.flat_walk.proofs.blocks.block_end.Goals as goal

pub returns-clause-later : goal.returns-clause-later
returns-clause-later c = c.end_of.ensures.whole c.args.number (omega arith) c.requires
