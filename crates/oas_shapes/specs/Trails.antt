-- Places that are listed one by one: in half units those before the place that was reached, and that place in grid steps.
use Rattle.std.specs.Prelude.{◌≡◌, ◌≤◌, List, ◌++◌, map}
use Rattle.half_grid.specs.declared.plane.Point.{Point}
use Rattle.oas_shapes.specs.Plane.{IsNearInSteps, doubled, places_along}
use Rattle.oas_shapes.specs.Rules.{AreNear}
use Rattle.oas_shapes.specs.declared.trails.Trail.{Trail}

-- with these moves still to go, the whole list is this one
pub record IsTrail (whole : List Point) (trail : Trail) (moves : List Point) : Type 0 where
  pub joined : trail.listed.items ++ map doubled (places_along trail.at moves) ≡ map doubled whole
  pub near : AreNear trail.listed.items
  pub here : IsNearInSteps trail.at
  -- so many places take no memory
  pub room : 12 ≤ trail.listed.capacity
