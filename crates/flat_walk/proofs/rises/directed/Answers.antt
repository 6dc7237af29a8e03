use Rattle.flat_walk.proofs.RiseLemmas.{directed_on, directed_off}
use Rattle.flat_walk.proofs.rises.directed.Goals as goal

pub returns-then-forward-clause-amid : goal.returns-then-forward-clause-amid
returns-then-forward-clause-amid c = directed_on c.args.forward c.args.range c.if-forward.true

pub returns-clause-amid : goal.returns-clause-amid
returns-clause-amid c = directed_off c.args.forward c.args.range c.reversed.result c.if-forward.false c.reversed.ensures.low c.reversed.ensures.high
