-- What a list of points shows: its own points, or shared ones that are moved.
use Rattle.std.specs.Prelude.{◌<◌, List, length, map, All}
use Rattle.half_grid.specs.Reach.{IsPointWithinReach}
use Rattle.half_grid.specs.declared.extent.Frame.{Frame}
use Rattle.half_grid.specs.declared.plane.Point.{Point}
use Rattle.layout_model.specs.Hulls.{IsLeastBoxOf}
use Rattle.layout_model.specs.Images.{moved}
use Rattle.layout_model.specs.declared.points.Held.{Held}
use Rattle.layout_model.specs.declared.points.Held.TheVariants.{Own, Shared}

abbrev pub points_of : Held → List Point
points_of (Own points) = points.items
points_of (Shared many by) = map (moved by) many.value.points.items

-- points that are shared: more than nine, with their least box
pub record AreMany (points : List Point) (box : Frame) : Type 0 where
  pub many : 9 < length points
  pub hull : IsLeastBoxOf points box

abbrev pub AreSound : Held → Type 0
AreSound (Own points) = Unit {0}
AreSound (Shared many by) = AreMany many.value.points.items many.value.hull × All IsPointWithinReach (map (moved by) many.value.points.items)
