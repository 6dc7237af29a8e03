use Rattle.std.proofs.Common.{rules}
use Rattle.square_size.proofs.MarkLemmas.{all_marked}
use Rattle.square_size.proofs.levels.mark_all.Goals as goal

pub loop-k-preserved : goal.loop-k-preserved
loop-k-preserved c = record { many = search rules; apart = c.mark_under.ensures.more c.loop-k.invariant.apart }

pub returns : goal.returns
returns c = all_marked c.args.traps.now c.loop-k.marks c.loop-k.k c.loop-k.invariant.many c.loop-k-test.false c.loop-k.invariant.apart
