use Rattle.std.proofs.Common.{length, map, ◌↔◌}
use Rattle.layout_model.specs.Images.{enlarged}
use Rattle.oas_shapes.specs.Plane.{origin, doubled, places_along, IsNearInSteps}
use Rattle.oas_shapes.specs.Rules.{AreNear}
use Rattle.oas_shapes.proofs.trails.moves_stay_near.Given as goal

abbrev pub invariant-loop-step : goal.invariant-loop-step
invariant-loop-step l = record {
  here : IsNearInSteps l.at;
  same : AreNear (map doubled (places_along l.at (map (enlarged l.grid) l.rest)))
      ↔ AreNear (map doubled (places_along origin (map (enlarged l.grid) l.moves)));
}

abbrev pub decreases-loop-step : goal.decreases-loop-step
decreases-loop-step l = length l.rest
