use Rattle.std.proofs.Common.{length, map, ◌↔◌}
use Rattle.layout_model.specs.Images.{enlarged}
use Rattle.oas_shapes.specs.Plane.{origin, doubled, places_along, IsNearInSteps}
use Rattle.oas_shapes.specs.Rules.{AreNear}
use Rattle.oas_shapes.specs.Ways.{towards}
use Rattle.oas_shapes.proofs.trails.spaces_stay_near.Given as goal

abbrev pub invariant-loop-space : goal.invariant-loop-space
invariant-loop-space l = record {
  here : IsNearInSteps l.at;
  same : AreNear (map doubled (places_along l.at (map (λ space. enlarged l.grid (towards l.is_upright space)) l.rest)))
      ↔ AreNear (map doubled (places_along origin (map (λ space. enlarged l.grid (towards l.is_upright space)) l.spaces)));
}

abbrev pub decreases-loop-space : goal.decreases-loop-space
decreases-loop-space l = length l.rest
