use Rattle.std.proofs.Common.{◌≡◌, ◌^◌, ◌+◌, Some, sym, subst, refl, slice_get}
use Rattle.cell_tree.specs.Boxes.{IsBoxUpTo}
use Rattle.flat_walk.specs.Boxes.{IsQuadIn}
use Rattle.flat_walk.specs.Blocks.{ShowNothing}
use Rattle.flat_walk.proofs.BlockLemmas.{nothing_there}
use Rattle.flat_walk.proofs.blocks.BoxList.after_one.Goals as goal

pub may_show-requires-clause-near : goal.may_show-requires-clause-near
may_show-requires-clause-near c =
    let n = c.args.number in
    subst (IsBoxUpTo (2 ^ 53)) (sym c.frame-around.ensures) (c.self.invariant.0 n c.box_in.result.now
    (subst (λ l. slice_get l n ≡ Some c.box_in.result.now) c.as_slice.ensures.value c.box_in.ensures))

pub returns-clause-none : goal.returns-clause-none
returns-clause-none c =
    let n = c.args.number in
    let at = subst (λ l. slice_get l n ≡ Some c.box_in.result.now) c.as_slice.ensures.value c.box_in.ensures in
    subst (λ l. ShowNothing c.args.window c.args.orient c.args.at l n (n + 1)) c.self.view_is
    (nothing_there c.args.window c.args.orient c.args.at c.self.inside.boxes.items n (n + 1) c.box_in.result.now refl at
    (λ q inside. c.may_show.ensures c.if-may_show.false q (subst (λ box. IsQuadIn box q) (sym c.frame-around.ensures) inside)))
