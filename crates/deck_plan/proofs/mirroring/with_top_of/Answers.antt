use Rattle.std.proofs.Common.{◌≡◌, ◌∙◌, ◌+◌, ◌∷◌, [], ◌++◌, All, take, drop, ap, sym, subst, arith}
use Rattle.std.proofs.lemmas.Int.{ints}
use Rattle.std.proofs.lemmas.List.{take_more, drop_more}
use Rattle.std.proofs.lemmas.List.Elements.{All-push}
use Rattle.half_grid.specs.Trapezoids.{Trapezoid}
use Rattle.deck_plan.specs.Images.{HasTop}
use Rattle.deck_plan.proofs.ImageLemmas.{drop_first, none_left}
use Rattle.deck_plan.proofs.mirroring.with_top_of.Goals as goal

pub loop-count-preserved : goal.loop-count-preserved
loop-count-preserved c =
    let trap = c.index-traps-count.result in
    let traps = c.args.traps.now in
    let count = c.loop-count.count in
    let top : trap.y1 ≡ c.args.first.now.y1 = omega (arith, ints, c.if-y1.false, c.y1.ensures.value, c.y1-in-loop-count.ensures.value) in
    let more : take (count + 1) traps ≡ take count traps ++ trap ∷ [] =
    take_more traps count trap c.loop-count-test.true ∙ ap (λ x. take count traps ++ x ∷ [])
    (sym c.index-traps-count.is) in
    record {
      within = omega (arith, c.loop-count-test.true);
      same = subst (All (HasTop c.args.first.now.y1)) (sym more)
          (All-push (HasTop c.args.first.now.y1) (take count traps) trap c.loop-count.invariant.same top);
    }

pub returns-then-y1-clause-next : goal.returns-then-y1-clause-next
returns-then-y1-clause-next c = λ z zs e top.
    let trap = c.index-traps-count.result in
    let traps = c.args.traps.now in
    let count = c.loop-count.count in
    let here : drop count traps ≡ trap ∷ drop (count + 1) traps = drop_more traps count trap c.loop-count-test.true
    ∙ ap (λ x. x ∷ drop (count + 1) traps) (sym c.index-traps-count.is) in
    let same = ap (λ (u : Trapezoid). u.y1) (drop_first traps count trap z zs c.loop-count-test.true here e) in
    omega (arith, ints, c.if-y1.true, c.y1.ensures.value, c.y1-in-loop-count.ensures.value, same, top)

pub returns-clause-next : goal.returns-clause-next
returns-clause-next c = λ z zs e top. none_left c.args.traps.now c.loop-count.count z zs (omega (arith, c.loop-count-test.false)) e
