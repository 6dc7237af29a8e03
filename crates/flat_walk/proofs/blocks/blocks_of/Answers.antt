use Rattle.std.proofs.Common.{◌≤◌, ◌+◌, sym, ap, subst, arith, length, length-append, ◌∷◌, []}
use Rattle.flat_walk.specs.Blocks.{IsRoundThose, AreBlocks}
use Rattle.flat_walk.proofs.BlockLemmas.{no_blocks, blocks_more}
use Rattle.flat_walk.proofs.blocks.blocks_of.Goals as goal

pub loop-start-init : goal.loop-start-init
loop-start-init c =
    let none = c.in_ok-blocks.ensures.items in
    record {
      start = let e = ap length none in omega (arith, e);
      inside = omega arith;
      blocks = subst (AreBlocks c.args.boxes.now) (sym none) (no_blocks c.args.boxes.now);
    }

pub loop-start-preserved : goal.loop-start-preserved
loop-start-preserved c =
    let l = c.loop-start in
    let boxes = c.args.boxes.now in
    let block = c.block_from-block in
    let i = l.invariant in
    let inside : l.start + 64 ≤ length boxes = omega (arith, i.inside, c.loop-start-test.true) in
    let items = c.in_ok-push.ensures.items in
    record {
      start = let e = ap length items in let f = length-append l.blocks.items (block.result ∷ []) in omega (arith, e, f, i.start);
      inside = inside;
      blocks = subst (AreBlocks boxes) (sym items) (blocks_more boxes l.blocks.items block.result i.blocks (omega (arith, i.start, inside))
          (subst (λ n. IsRoundThose boxes n (n + 64) block.result) i.start block.ensures.around) block.ensures.near);
    }
