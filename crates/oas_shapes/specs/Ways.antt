-- A move of any length as a point, and moves along the axes.
use Rattle.std.specs.Prelude.{ℕ, Bool, true, false}
use Rattle.half_grid.specs.declared.plane.Point.{Point}
use Rattle.oas_shapes.specs.Plane.{point, east, north}
use Rattle.oas_shapes.specs.declared.wide.Wide.{Wide}

abbrev pub way_of : Wide → Point
way_of way = point way.x way.y

abbrev pub towards : Bool → ℕ → Point
towards true space = north space
towards false space = east space
