use Rattle.std.proofs.Common.{sym, subst}
use Rattle.flat_walk.specs.Blocks.{ShowNothing, boxes_in}
use Rattle.flat_walk.proofs.blocks.next_in.Goals as goal

pub returns-in-Some-clause-none : goal.returns-in-Some-clause-none
returns-in-Some-clause-none c =
    subst (λ o. ShowNothing c.args.window c.args.orient c.args.at (boxes_in o) c.args.from c.next.result) (sym c.in-Some.is) c.next.ensures.none
