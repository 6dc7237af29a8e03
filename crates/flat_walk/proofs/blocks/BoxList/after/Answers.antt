use Rattle.std.proofs.Common.{◌≡◌, ◌+◌, ◌*◌, ◌/◌, Some, subst, refl, arith, slice_get}
use Rattle.flat_walk.specs.Blocks.{IsRoundThose, ShowNothing}
use Rattle.flat_walk.proofs.BlockLemmas.{block_hides, nothing_there}
use Rattle.flat_walk.proofs.WayLemmas.{looked_up}
use Rattle.flat_walk.proofs.blocks.BoxList.after.Goals as goal

pub may_show-requires-clause-near : goal.may_show-requires-clause-near
may_show-requires-clause-near c =
    c.self.invariant.1.near (c.args.number / 64) c.in-Some.block.now
    (looked_up c.deref.result.now c.self.inside.blocks.items
    (c.args.number / 64) c.in-Some.block.now c.deref.ensures.value c.in-Some.ensures.lookup.3.0
    c.in-Some.ensures.lookup.1)

pub returns-then-not-may_show-clause-none : goal.returns-then-not-may_show-clause-none
returns-then-not-may_show-clause-none c =
    let n = c.args.number in
    let e : (n / 64) * 64 ≡ n = omega (arith, c.if-number-eq0.true) in
    let at = looked_up c.deref.result.now c.self.inside.blocks.items
    (n / 64) c.in-Some.block.now c.deref.ensures.value c.in-Some.ensures.lookup.3.0 c.in-Some.ensures.lookup.1
    in
    let boxes = c.self.inside.boxes.items in
    let those = subst (λ k. IsRoundThose boxes k (k + 64) c.in-Some.block.now) e (c.self.invariant.1.around (n / 64) c.in-Some.block.now at) in
    subst (λ l. ShowNothing c.args.window c.args.orient c.args.at l n (n + 64)) c.self.view_is
    (block_hides c.args.window c.args.orient c.args.at boxes n (n + 64) c.in-Some.block.now those (c.may_show.ensures c.if-not-may_show.true))

pub returns-clause-none : goal.returns-clause-none
returns-clause-none c =
    let n = c.args.number in
    subst (λ l. ShowNothing c.args.window c.args.orient c.args.at l n c.first_among.result) c.self.view_is
    (subst (λ l. ShowNothing c.args.window c.args.orient c.args.at l n c.first_among.result) c.as_slice.ensures.value
    (c.first_among.ensures.none c.args.window c.args.orient c.args.at (rw c.in-Some-rows.is at c.requires.rows)))
