use Rattle.std.proofs.Common.{length, map}
use Rattle.layout_model.specs.Images.{enlarged}
use Rattle.oas_shapes.specs.Plane.{origin, places_along}
use Rattle.oas_shapes.specs.Trails.{IsTrail}
use Rattle.oas_shapes.specs.Ways.{towards}
use Rattle.oas_shapes.proofs.trails.along_spaces.Given as goal

abbrev pub invariant-loop-space : goal.invariant-loop-space
invariant-loop-space l =
    IsTrail (places_along origin (map (λ space. enlarged l.grid (towards l.is_upright space)) l.spaces)) l.trail
    (map (λ space. enlarged l.grid (towards l.is_upright space)) l.rest)

abbrev pub decreases-loop-space : goal.decreases-loop-space
decreases-loop-space l = length l.rest
