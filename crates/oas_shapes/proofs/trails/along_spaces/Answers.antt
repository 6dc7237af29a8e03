use Rattle.std.proofs.Common.{ℕ, ◌∷◌, ◌∙◌, map, sym, ap, subst}
use Rattle.half_grid.specs.declared.plane.Point.{Point}
use Rattle.layout_model.specs.Images.{moved, enlarged}
use Rattle.oas_shapes.specs.Plane.{origin, places_along, IsNearInSteps}
use Rattle.oas_shapes.specs.Trails.{IsTrail}
use Rattle.oas_shapes.specs.Ways.{towards}
use Rattle.oas_shapes.proofs.TrailLemmas.{trail_far, few_mapped, no_refusal}
use Rattle.oas_shapes.proofs.trails.along_spaces.Goals as goal

pub returns-in_default-times-clause-far : goal.returns-in_default-times-clause-far
returns-in_default-times-clause-far c = λ e near.
    let way : ℕ → Point = (λ space. enlarged c.args.grid (towards c.args.is_upright space)) in
    let whole = places_along origin (map way c.args.spaces.now) in
    let rest = map way c.next.new.self in
    let t = subst (λ xs. IsTrail whole c.loop-space.trail (map way xs)) c.in-Some.ensures c.loop-space.invariant in
    let far = c.in_default-times.ensures.none c.loop-space.trail.at c.loop-space.invariant.here in
    trail_far whole c.loop-space.trail (way c.in-Some.space) rest t
    (subst (λ q. ¬ IsNearInSteps (moved c.loop-space.trail.at (enlarged c.args.grid q))) c.towards.ensures far) near

pub loop-space-preserved : goal.loop-space-preserved
loop-space-preserved c =
    let way : ℕ → Point = (λ space. enlarged c.args.grid (towards c.args.is_upright space)) in
    let whole = places_along origin (map way c.args.spaces.now) in
    let rest = map way c.next.new.self in
    let t = subst (λ xs. IsTrail whole c.loop-space.trail (map way xs)) c.in-Some.ensures c.loop-space.invariant in
    let same = c.in-Some-times.ensures.some ∙ ap (enlarged c.args.grid) c.towards.ensures in
    c.in-Ok.ensures.on whole rest (subst (λ w. IsTrail whole c.loop-space.trail (w ∷ rest)) (sym same) t)

pub returns-in-Err-clause-few : goal.returns-in-Err-clause-few
returns-in-Err-clause-few c = λ few.
    let way : ℕ → Point = (λ space. enlarged c.args.grid (towards c.args.is_upright space)) in
    let whole = places_along origin (map way c.args.spaces.now) in
    let rest = map way c.next.new.self in
    let t = subst (λ xs. IsTrail whole c.loop-space.trail (map way xs)) c.in-Some.ensures c.loop-space.invariant in
    let same = c.in-Some-times.ensures.some ∙ ap (enlarged c.args.grid) c.towards.ensures in
    c.in-Err.ensures.few whole rest (subst (λ w. IsTrail whole c.loop-space.trail (w ∷ rest)) (sym same) t)
    (few_mapped origin way c.args.spaces.now few)

pub returns-clause-few : goal.returns-clause-few
returns-clause-few c = λ few.
    let way : ℕ → Point = (λ space. enlarged c.args.grid (towards c.args.is_upright space)) in
    let whole = places_along origin (map way c.args.spaces.now) in
    let t = subst (λ xs. IsTrail whole c.loop-space.trail (map way xs)) c.in_default.ensures c.loop-space.invariant in
    no_refusal _ c.finish.result (c.finish.ensures.few whole t (few_mapped origin way c.args.spaces.now few))
