use Rattle.std.proofs.Common.{length}
use Rattle.oas_shapes.specs.Plane.{places_along}
use Rattle.oas_shapes.specs.Trails.{IsTrail}
use Rattle.oas_shapes.proofs.trails.along.Given as goal

abbrev pub invariant-loop-step : goal.invariant-loop-step
invariant-loop-step l = IsTrail (places_along l.fn.start l.moves) l.trail l.rest

abbrev pub decreases-loop-step : goal.decreases-loop-step
decreases-loop-step l = length l.rest
