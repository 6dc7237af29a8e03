use Rattle.std.proofs.Common.{ℕ, ◌∙◌, map, refl, sym, ap, subst, ◌≡◌, ◌↔◌}
use Rattle.half_grid.specs.declared.plane.Point.{Point}
use Rattle.layout_model.specs.Images.{moved, enlarged}
use Rattle.oas_shapes.specs.Plane.{origin, doubled, places_along, IsNearInSteps}
use Rattle.oas_shapes.specs.Rules.{AreNear}
use Rattle.oas_shapes.specs.Ways.{towards}
use Rattle.oas_shapes.proofs.TrailLemmas.{stays_on, strays, stayed}
use Rattle.oas_shapes.proofs.trails.spaces_stay_near.Goals as goal

pub loop-space-preserved : goal.loop-space-preserved
loop-space-preserved c =
    let way : ℕ → Point = (λ space. enlarged c.args.grid (towards c.args.is_upright space)) in
    let whole = places_along origin (map way c.args.spaces.now) in
    let rest = map way c.next.new.self in
    let at = c.loop-space.at in
    let same = subst (λ xs. AreNear (map doubled (places_along at (map way xs))) ↔ AreNear (map doubled whole)) c.in-Some.ensures c.loop-space.invariant.same in
    let on = stays_on at (way c.in-Some.space) rest c.loop-space.invariant.here in
    let place : c.in-Some-place_by.next ≡ moved at (way c.in-Some.space) =
    c.in-Some-place_by.ensures.some.0 ∙ ap (λ q. moved at (enlarged c.args.grid q)) c.towards.ensures in
    record {
      here = c.in-Some-place_by.ensures.some.1;
      same = subst (λ p. AreNear (map doubled (places_along p rest)) ↔ AreNear (map doubled whole)) (sym place)
          (λ near. same.0 (on.0 near), λ near. on.1 (same.1 near));
    }

pub returns-in-None : goal.returns-in-None
returns-in-None c =
    let way : ℕ → Point = (λ space. enlarged c.args.grid (towards c.args.is_upright space)) in
    let whole = places_along origin (map way c.args.spaces.now) in
    let at = c.loop-space.at in
    let same = subst (λ xs. AreNear (map doubled (places_along at (map way xs))) ↔ AreNear (map doubled whole)) c.in-Some.ensures c.loop-space.invariant.same in
    let far = subst (λ q. ¬ IsNearInSteps (moved at (enlarged c.args.grid q))) c.towards.ensures c.in-None.ensures.none in (
      λ yes. absurd (cc),
      λ near. absurd (strays (map doubled whole) at (way c.in-Some.space) (map way c.next.new.self) c.loop-space.invariant.here same far near),
    )

pub returns : goal.returns
returns c =
    let way : ℕ → Point = (λ space. enlarged c.args.grid (towards c.args.is_upright space)) in
    let whole = places_along origin (map way c.args.spaces.now) in
    let at = c.loop-space.at in
    let same = subst (λ xs. AreNear (map doubled (places_along at (map way xs))) ↔ AreNear (map doubled whole))
    c.in_default.ensures c.loop-space.invariant.same in
    (λ yes. stayed (map doubled whole) at c.loop-space.invariant.here same, λ near. refl)
