use Rattle.std.proofs.Common.{◌∷◌, sym, subst}
use Rattle.oas_shapes.specs.Plane.{places_along}
use Rattle.oas_shapes.specs.Trails.{IsTrail}
use Rattle.oas_shapes.proofs.TrailLemmas.{few_places, no_refusal}
use Rattle.oas_shapes.proofs.trails.along.Goals as goal

pub loop-step-preserved : goal.loop-step-preserved
loop-step-preserved c =
    let whole = places_along c.args.start c.args.moves.now in
    let rest = c.next.new.self in
    let t = subst (λ xs. IsTrail whole c.loop-step.trail xs) c.in-Some.ensures c.loop-step.invariant in
    c.in-Ok.ensures.on whole rest (subst (λ w. IsTrail whole c.loop-step.trail (w ∷ rest)) (sym c.widened.ensures) t)

pub returns-in-Err-clause-few : goal.returns-in-Err-clause-few
returns-in-Err-clause-few c = λ few.
    let whole = places_along c.args.start c.args.moves.now in
    let rest = c.next.new.self in
    let t = subst (λ xs. IsTrail whole c.loop-step.trail xs) c.in-Some.ensures c.loop-step.invariant in
    c.in-Err.ensures.few whole rest (subst (λ w. IsTrail whole c.loop-step.trail (w ∷ rest)) (sym c.widened.ensures) t)
    (few_places c.args.start c.args.moves.now few)

pub returns-clause-few : goal.returns-clause-few
returns-clause-few c = λ few.
    let whole = places_along c.args.start c.args.moves.now in
    let t = subst (λ xs. IsTrail whole c.loop-step.trail xs) c.in_default.ensures c.loop-step.invariant in
    no_refusal _ c.finish.result (c.finish.ensures.few whole t (few_places c.args.start c.args.moves.now few))
