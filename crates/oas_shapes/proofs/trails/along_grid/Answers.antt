use Rattle.std.proofs.Common.{◌∷◌, ◌∙◌, map, sym, ap, subst}
use Rattle.layout_model.specs.Images.{moved, enlarged}
use Rattle.oas_shapes.specs.Plane.{origin, places_along, IsNearInSteps}
use Rattle.oas_shapes.specs.Trails.{IsTrail}
use Rattle.oas_shapes.proofs.TrailLemmas.{trail_far, few_mapped, no_refusal}
use Rattle.oas_shapes.proofs.trails.along_grid.Goals as goal

pub returns-in_default-times-clause-far : goal.returns-in_default-times-clause-far
returns-in_default-times-clause-far c = λ e near.
    let way = enlarged c.args.grid in
    let whole = places_along origin (map way c.args.moves.now) in
    let rest = map way c.next.new.self in
    let t = subst (λ xs. IsTrail whole c.loop-step.trail (map way xs)) c.in-Some.ensures c.loop-step.invariant in
    let far = c.in_default-times.ensures.none c.loop-step.trail.at c.loop-step.invariant.here in
    trail_far whole c.loop-step.trail (way c.in-Some.step) rest t
    (subst (λ q. ¬ IsNearInSteps (moved c.loop-step.trail.at (enlarged c.args.grid q))) c.widened.ensures far) near

pub loop-step-preserved : goal.loop-step-preserved
loop-step-preserved c =
    let way = enlarged c.args.grid in
    let whole = places_along origin (map way c.args.moves.now) in
    let rest = map way c.next.new.self in
    let t = subst (λ xs. IsTrail whole c.loop-step.trail (map way xs)) c.in-Some.ensures c.loop-step.invariant in
    let same = c.in-Some-times.ensures.some ∙ ap (enlarged c.args.grid) c.widened.ensures in
    c.in-Ok.ensures.on whole rest (subst (λ w. IsTrail whole c.loop-step.trail (w ∷ rest)) (sym same) t)

pub returns-in-Err-clause-few : goal.returns-in-Err-clause-few
returns-in-Err-clause-few c = λ few.
    let way = enlarged c.args.grid in
    let whole = places_along origin (map way c.args.moves.now) in
    let rest = map way c.next.new.self in
    let t = subst (λ xs. IsTrail whole c.loop-step.trail (map way xs)) c.in-Some.ensures c.loop-step.invariant in
    let same = c.in-Some-times.ensures.some ∙ ap (enlarged c.args.grid) c.widened.ensures in
    c.in-Err.ensures.few whole rest (subst (λ w. IsTrail whole c.loop-step.trail (w ∷ rest)) (sym same) t)
    (few_mapped origin way c.args.moves.now few)

pub returns-clause-few : goal.returns-clause-few
returns-clause-few c = λ few.
    let way = enlarged c.args.grid in
    let whole = places_along origin (map way c.args.moves.now) in
    let t = subst (λ xs. IsTrail whole c.loop-step.trail (map way xs)) c.in_default.ensures c.loop-step.invariant in
    no_refusal _ c.finish.result (c.finish.ensures.few whole t (few_mapped origin way c.args.moves.now few))
