use Rattle.std.proofs.Common.{◌≡◌, ◌∙◌, ◌+◌, ◌∷◌, [], ◌++◌, All, take, ap, sym, subst, refl, arith}
use Rattle.std.proofs.lemmas.Int.{ints}
use Rattle.std.proofs.lemmas.List.{take_more, take_all}
use Rattle.std.proofs.lemmas.List.Elements.{All-push, All-same}
use Rattle.deck_plan.specs.Bounds.{IsAround}
use Rattle.deck_plan.proofs.KeptLemmas.{around_by}
use Rattle.deck_plan.proofs.kept.has_all.Goals as goal

pub loop-trap-preserved : goal.loop-trap-preserved
loop-trap-preserved c =
    let trap = c.trap-item.result in
    let frame = c.args.frame.now in
    let before = take c.loop-trap.trap-index c.args.traps.now in
    let more : take (c.loop-trap.trap-index + 1) c.args.traps.now ≡ before ++ trap ∷ [] =
    take_more c.args.traps.now c.loop-trap.trap-index trap (omega arith) ∙ ap (λ x. before ++ x ∷ []) (sym c.trap-item.is) in
    subst (All (IsAround frame)) (sym more) (All-push (IsAround frame) before trap c.loop-trap.invariant (around_by frame trap
    (omega (arith, ints, c.if-y0-frame.false, c.y0.ensures.value))
    (omega (arith, ints, c.if-frame-y1.false, c.y1.ensures.value))
    (omega (arith, ints, c.if-least_x-frame.false, c.least_x.ensures.value))
    (omega (arith, ints, c.if-frame-greatest_x.false, c.greatest_x.ensures.value))))

pub returns : goal.returns
returns c = λ told.
    All-same (IsAround c.args.frame.now) c.args.traps.now (take c.loop-trap.trap-index c.args.traps.now)
    (rw (take_all c.loop-trap.trap-index c.args.traps.now c.loop-trap-test.false) refl) c.loop-trap.invariant
