use Rattle.std.proofs.Common.{get_or, drop, pos, subst, sym, ap, ◌∙◌, ◌≡◌, ◌+◌, ◌∷◌, []}
use Rattle.std.proofs.lemmas.List.{drop_more}
use Rattle.std.proofs.Math.ListN.{drop_of_length-le}
use Rattle.layout_model.proofs.CourseLemmas.{Onward, onward_more, onward_back, onward_end}
use Rattle.half_grid.specs.declared.plane.Point.{Point}
use Rattle.layout_model.specs.Paths.{are_opposite, later}
use Rattle.layout_model.proofs.courses.first_turn_back.Goals as goal

pub returns-then-are_opposite-clause-some : goal.returns-then-are_opposite-clause-some
returns-then-are_opposite-clause-some c =
    let point : Point = get_or c.in-Some.rest.now c.loop-k.k (record { x = pos 0; y = pos 0 }) in
    let here : drop c.loop-k.k c.in-Some.rest.now ≡ point ∷ drop (c.loop-k.k + 1) c.in-Some.rest.now =
    drop_more c.in-Some.rest.now c.loop-k.k (record { x = pos 0; y = pos 0 }) c.loop-k-test.true in
    onward_back c.args.points.now c.loop-k.previous point _ c.loop-k.heading c.loop-k.k
    (subst (λ rest. Onward c.args.points.now c.loop-k.previous rest c.loop-k.heading c.loop-k.k) here
    c.loop-k.invariant) (ap (are_opposite c.loop-k.heading) (sym c.direction_to-onward.ensures)
    ∙ sym c.are_opposite.ensures ∙ c.if-are_opposite.true)

pub loop-k-preserved : goal.loop-k-preserved
loop-k-preserved c =
    let point : Point = get_or c.in-Some.rest.now c.loop-k.k (record { x = pos 0; y = pos 0 }) in
    let here : drop c.loop-k.k c.in-Some.rest.now ≡ point ∷ drop (c.loop-k.k + 1) c.in-Some.rest.now =
    drop_more c.in-Some.rest.now c.loop-k.k (record { x = pos 0; y = pos 0 }) c.loop-k-test.true in
    let onward = c.direction_to-onward.ensures in
    let turned = c.later-heading.ensures ∙ ap (later c.loop-k.heading) onward in
    subst (λ heading. Onward c.args.points.now point (drop (c.loop-k.k + 1) c.in-Some.rest.now) heading (c.loop-k.k + 1)) (sym turned)
    (onward_more c.args.points.now c.loop-k.previous point _ c.loop-k.heading c.loop-k.k
    (subst (λ rest. Onward c.args.points.now c.loop-k.previous rest c.loop-k.heading c.loop-k.k) here
    c.loop-k.invariant) (ap (are_opposite c.loop-k.heading) (sym onward) ∙ sym c.are_opposite.ensures
    ∙ c.if-are_opposite.false))

pub returns-clause-none : goal.returns-clause-none
returns-clause-none c =
    let none : drop c.loop-k.k c.in-Some.rest.now ≡ [] = drop_of_length-le c.in-Some.rest.now c.loop-k-test.false in
    onward_end c.args.points.now c.loop-k.previous c.loop-k.heading c.loop-k.k
    (subst (λ rest. Onward c.args.points.now c.loop-k.previous rest c.loop-k.heading c.loop-k.k) none
    c.loop-k.invariant)
