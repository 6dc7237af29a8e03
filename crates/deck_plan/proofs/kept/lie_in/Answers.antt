use Rattle.std.proofs.Common.{◌≡◌, ◌∙◌, ◌+◌, ◌∷◌, [], ◌++◌, All, take, ap, sym, subst, refl, arith}
use Rattle.std.proofs.lemmas.Int.{ints}
use Rattle.std.proofs.lemmas.List.{take_more, take_all}
use Rattle.std.proofs.lemmas.List.Elements.{All-push, All-same}
use Rattle.half_grid.specs.JoinedLists.{IsInWindow}
use Rattle.deck_plan.proofs.kept.lie_in.Goals as goal

pub loop-trap-preserved : goal.loop-trap-preserved
loop-trap-preserved c =
    let trap = c.trap-item.result in
    let before = take c.loop-trap.trap-index c.args.traps.now in
    let more : take (c.loop-trap.trap-index + 1) c.args.traps.now ≡ before ++ trap ∷ [] =
    take_more c.args.traps.now c.loop-trap.trap-index trap (omega arith) ∙ ap (λ x. before ++ x ∷ []) (sym c.trap-item.is) in
    subst (All (IsInWindow c.args.window)) (sym more) (All-push (IsInWindow c.args.window) before trap c.loop-trap.invariant (record {
      low = omega (arith, ints, c.if-y0.false, c.y0.ensures.value, c.y0-in-loop-trap.ensures.value);
      high = omega (arith, ints, c.if-y1.false, c.y1.ensures.value, c.y1-else-y0.ensures.value);
    }))

pub returns : goal.returns
returns c = λ told.
    All-same (IsInWindow c.args.window) c.args.traps.now (take c.loop-trap.trap-index c.args.traps.now)
    (rw (take_all c.loop-trap.trap-index c.args.traps.now c.loop-trap-test.false) refl) c.loop-trap.invariant
