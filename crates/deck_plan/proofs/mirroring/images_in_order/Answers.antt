use Rattle.std.proofs.Common.{◌≡◌, ◌∙◌, suc, ◌+◌, ◌∷◌, All, Contains, take, drop, length, ap, sym, subst, arith}
use Rattle.std.proofs.lemmas.List.Elements.{All-take}
use Rattle.tone_mirror.specs.Mirrors.{HasImageWithinReach}
use Rattle.trap_join.proofs.ForCallers.{is_first}
use Rattle.deck_plan.specs.Images.{HasTop, Turned}
use Rattle.deck_plan.proofs.ImageLemmas.{turned_all, turned_more, turned_within, tops_of}
use Rattle.deck_plan.proofs.mirroring.images_in_order.Goals as goal

pub split_at-requires : goal.split_at-requires
split_at-requires c = omega (arith, c.with_top_of.ensures.within, ap length c.in-Some.ensures.cases.0)

pub put_images-requires : goal.put_images-requires
put_images-requires c =
    subst (All (HasImageWithinReach c.args.axis.m)) (sym (c.split_at.ensures.front))
    (All-take (HasImageWithinReach c.args.axis.m) (1 + c.with_top_of.result) c.loop-first.left.now
    (turned_within c.args.axis.m
    (HasImageWithinReach c.args.axis.m) c.args.traps.now c.loop-first.left.now c.loop-first.images.items
    c.loop-first.invariant c.requires.within))

pub loop-first-preserved : goal.loop-first-preserved
loop-first-preserved c =
    let first = c.in-Some.first.now in
    let later = c.in-Some.later.now in
    let group = c.split_at.result.0.now in
    let above = c.split_at.result.1.now in
    let parts = c.split_at.ensures in
    let n = c.with_top_of.result in
    let more : 1 + n ≡ suc n = omega arith in
    let group_is : group ≡ first ∷ take n later = parts.front ∙ (ap (take (1 + n)) c.in-Some.ensures.cases.0 ∙ ap (λ k. take k (first ∷ later)) more) in
    let above_is : above ≡ drop n later = parts.back ∙ (ap (drop (1 + n)) c.in-Some.ensures.cases.0 ∙ ap (λ k. drop k (first ∷ later)) more) in
    subst (Turned c.args.axis.m c.args.traps.now above) (sym c.in_ok-put_images.ensures)
    (turned_more c.args.axis.m c.args.traps.now c.loop-first.left.now c.loop-first.images.items group above first
    c.requires.joined c.loop-first.invariant parts.by_index.0
    (subst (λ list. Contains list first) (sym group_is) (is_first first (take n later)))
    (subst (All (HasTop first.y1)) (sym group_is) (tops_of first (take n later) c.with_top_of.ensures.same))
    (λ z zs e. c.with_top_of.ensures.next z zs (sym above_is ∙ e)))

pub returns : goal.returns
returns c = turned_all c.args.axis.m c.args.traps.now c.loop-first.left.now c.loop-first.images.items c.loop-first.invariant c.in_default.ensures.cases
