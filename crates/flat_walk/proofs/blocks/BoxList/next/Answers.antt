use Rattle.std.proofs.Common.{arith}
use Rattle.flat_walk.proofs.BlockLemmas.{nothing_yet, nothing_more}
use Rattle.flat_walk.proofs.blocks.BoxList.next.Goals as goal

pub loop-next-init : goal.loop-next-init
loop-next-init c = record {
  later = omega arith;
  inside = λ less. absurd (omega (arith, less));
  none =
      nothing_yet c.args.window c.args.orient c.args.at c.args.self.now c.args.from;
}

pub loop-next-preserved : goal.loop-next-preserved
loop-next-preserved c =
    let i = c.loop-next.invariant in
    let a = c.after-after.ensures in
    record {
      later = omega (arith, i.later, a.later);
      inside = λ less. a.inside;
      none = nothing_more c.args.window c.args.orient c.args.at c.args.self.now c.args.from c.loop-next.next c.after-after.result i.none a.none;
    }
