use Rattle.std.proofs.Common.{◌+◌, refl, arith}
use Rattle.flat_walk.proofs.BlockLemmas.{nothing_yet, nothing_more, nothing_there}
use Rattle.flat_walk.proofs.blocks.first_among.Goals as goal

pub loop-next-init : goal.loop-next-init
loop-next-init c = record {
  later = omega arith;
  before = c.requires.order;
  none = λ window orient at are. nothing_yet window orient at c.args.boxes.now c.args.from;
}

pub loop-next-preserved : goal.loop-next-preserved
loop-next-preserved c =
    let i = c.loop-next.invariant in
    let n = c.loop-next.next in
    record {
      later = omega (arith, i.later);
      before = let h = c.loop-next-test.true in omega (arith, h);
      none = λ window orient at are.
          nothing_more window orient at c.args.boxes.now c.args.from n (n + 1) (i.none window orient at are)
          (nothing_there window orient at c.args.boxes.now n (n + 1) c.box_in.result.now refl c.box_in.ensures
          (λ q inside. are c.box_in.result.now q (c.meets.ensures c.if-meets.false) inside));
    }
