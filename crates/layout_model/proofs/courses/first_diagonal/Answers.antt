use Rattle.std.proofs.Common.{get_or, drop, pos, subst, sym, ◌∙◌, ◌≡◌, ◌+◌, ◌∷◌, []}
use Rattle.std.proofs.lemmas.List.{drop_more}
use Rattle.std.proofs.Math.ListN.{drop_of_length-le}
use Rattle.layout_model.proofs.CourseLemmas.{Straight, straight_more, straight_diagonal, straight_end}
use Rattle.half_grid.specs.declared.plane.Point.{Point}
use Rattle.layout_model.proofs.courses.first_diagonal.Goals as goal

pub returns-then-is_diagonal-clause-some : goal.returns-then-is_diagonal-clause-some
returns-then-is_diagonal-clause-some c =
    let point : Point = get_or c.in-Some.rest.now c.loop-k.k (record { x = pos 0; y = pos 0 }) in
    let here : drop c.loop-k.k c.in-Some.rest.now ≡ point ∷ drop (c.loop-k.k + 1) c.in-Some.rest.now =
    drop_more c.in-Some.rest.now c.loop-k.k (record { x = pos 0; y = pos 0 }) c.loop-k-test.true in
    straight_diagonal c.args.points.now c.loop-k.previous point _ c.loop-k.k
    (subst (λ rest. Straight c.args.points.now c.loop-k.previous rest c.loop-k.k) here c.loop-k.invariant)
    (sym c.is_diagonal.ensures ∙ c.if-is_diagonal.true)

pub loop-k-preserved : goal.loop-k-preserved
loop-k-preserved c =
    let point : Point = get_or c.in-Some.rest.now c.loop-k.k (record { x = pos 0; y = pos 0 }) in
    let here : drop c.loop-k.k c.in-Some.rest.now ≡ point ∷ drop (c.loop-k.k + 1) c.in-Some.rest.now =
    drop_more c.in-Some.rest.now c.loop-k.k (record { x = pos 0; y = pos 0 }) c.loop-k-test.true in
    straight_more c.args.points.now c.loop-k.previous point _ c.loop-k.k
    (subst (λ rest. Straight c.args.points.now c.loop-k.previous rest c.loop-k.k) here c.loop-k.invariant)
    (sym c.is_diagonal.ensures ∙ c.if-is_diagonal.false)

pub returns-clause-none : goal.returns-clause-none
returns-clause-none c =
    let none : drop c.loop-k.k c.in-Some.rest.now ≡ [] = drop_of_length-le c.in-Some.rest.now c.loop-k-test.false in
    straight_end c.args.points.now c.loop-k.previous c.loop-k.k
    (subst (λ rest. Straight c.args.points.now c.loop-k.previous rest c.loop-k.k) none c.loop-k.invariant)
