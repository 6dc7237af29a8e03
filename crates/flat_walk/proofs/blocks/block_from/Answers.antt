use Rattle.std.proofs.Common.{◌^◌, ◌+◌, sym, subst, refl, arith}
use Rattle.std.proofs.lemmas.Option.{slice_get_within}
use Rattle.cell_tree.specs.Boxes.{IsBoxUpTo}
use Rattle.flat_walk.proofs.BoxLemmas.{near_both}
use Rattle.flat_walk.proofs.BlockLemmas.{round_one, round_more}
use Rattle.flat_walk.proofs.blocks.block_from.Goals as goal

pub loop-next-init : goal.loop-next-init
loop-next-init c = record {
  later = omega arith;
  inside = let h = c.end_of-end.ensures.later in omega (arith, h);
  around = round_one c.args.boxes.now c.args.start (c.args.start + 1) c.box_at-around.result refl c.box_at-around.ensures;
  near = c.requires.near c.args.start c.box_at-around.result c.box_at-around.ensures;
}

pub loop-next-preserved : goal.loop-next-preserved
loop-next-preserved c =
    let l = c.loop-next in
    record {
      later = let h = l.invariant.later in omega (arith, h);
      inside = let h = c.loop-next-test.true in omega (arith, h);
      around = round_more c.args.boxes.now c.args.start l.next l.around c.box_at.result c.joined-around.result
          l.invariant.around c.box_at.ensures c.joined-around.ensures;
      near = subst (IsBoxUpTo (2 ^ 53)) (sym c.joined-around.ensures)
          (near_both (2 ^ 53) l.around c.box_at.result l.invariant.near
          (c.requires.near l.next c.box_at.result c.box_at.ensures));
    }

pub returns-clause-around : goal.returns-clause-around
returns-clause-around c = λ k box after early there.
    let inside = slice_get_within c.args.boxes.now k box there in
    let h = c.end_of-end.ensures.whole k early inside in
    c.loop-next.invariant.around k box after (omega (arith, h, c.loop-next-test.false)) there
