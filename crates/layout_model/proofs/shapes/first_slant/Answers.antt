use Rattle.std.proofs.Common.{get_or, drop, pos, subst, ◌≡◌, ◌+◌, ◌∷◌, [], arith}
use Rattle.std.proofs.lemmas.List.{drop_more}
use Rattle.std.proofs.Math.ListN.{drop_of_length-le}
use Rattle.layout_model.proofs.SlantLemmas.{Passed, passed_more, passed_slant, passed_end}
use Rattle.half_grid.specs.declared.plane.Point.{Point}
use Rattle.layout_model.proofs.shapes.first_slant.Goals as goal

pub returns-then-not-is_on_grid-clause-some : goal.returns-then-not-is_on_grid-clause-some
returns-then-not-is_on_grid-clause-some c =
    let point : Point = get_or c.in-Some.rest.now c.loop-k.k (record { x = pos 0; y = pos 0 }) in
    let here : drop c.loop-k.k c.in-Some.rest.now ≡ point ∷ drop (c.loop-k.k + 1) c.in-Some.rest.now =
    drop_more c.in-Some.rest.now c.loop-k.k (record { x = pos 0; y = pos 0 }) c.loop-k-test.true in
    passed_slant c.args.points.now c.loop-k.previous point _ c.loop-k.k
    (subst (λ rest. Passed c.args.points.now c.loop-k.previous rest c.loop-k.k) here c.loop-k.invariant)
    (λ on. absurd (grind (arith, c.is_on_grid.ensures, c.if-not-is_on_grid.true)))

pub loop-k-preserved : goal.loop-k-preserved
loop-k-preserved c =
    let point : Point = get_or c.in-Some.rest.now c.loop-k.k (record { x = pos 0; y = pos 0 }) in
    let here : drop c.loop-k.k c.in-Some.rest.now ≡ point ∷ drop (c.loop-k.k + 1) c.in-Some.rest.now =
    drop_more c.in-Some.rest.now c.loop-k.k (record { x = pos 0; y = pos 0 }) c.loop-k-test.true in
    passed_more c.args.points.now c.loop-k.previous point _ c.loop-k.k
    (subst (λ rest. Passed c.args.points.now c.loop-k.previous rest c.loop-k.k) here c.loop-k.invariant)
    (c.is_on_grid.ensures.0 c.if-not-is_on_grid.false)

pub returns-clause-none : goal.returns-clause-none
returns-clause-none c =
    let none : drop c.loop-k.k c.in-Some.rest.now ≡ [] = drop_of_length-le c.in-Some.rest.now c.loop-k-test.false in
    passed_end c.args.points.now c.loop-k.previous c.loop-k.k
    (subst (λ rest. Passed c.args.points.now c.loop-k.previous rest c.loop-k.k) none c.loop-k.invariant)
