use Rattle.std.proofs.Common.{length, map}
use Rattle.layout_model.specs.Images.{enlarged}
use Rattle.oas_shapes.specs.Plane.{origin, places_along}
use Rattle.oas_shapes.specs.Trails.{IsTrail}
use Rattle.oas_shapes.proofs.trails.along_grid.Given as goal

abbrev pub invariant-loop-step : goal.invariant-loop-step
invariant-loop-step l = IsTrail (places_along origin (map (enlarged l.grid) l.moves)) l.trail (map (enlarged l.grid) l.rest)

abbrev pub decreases-loop-step : goal.decreases-loop-step
decreases-loop-step l = length l.rest
