-- The outline that is kept with a point list, and how it gets from one position to another.
use Rattle.std.specs.Prelude.{◌≡◌, ◌≤◌, ◌-ℤ◌, Option, Some, None, length}
use Rattle.half_grid.specs.Outlines.{HasGridEdges}
use Rattle.half_grid.specs.declared.extent.Frame.{Frame}
use Rattle.half_grid.specs.declared.plane.Point.{Point}
use Rattle.oas_record.specs.declared.fields.Deltas.{Deltas}
use Rattle.oas_shapes.specs.Plane.{point, doubled, IsNearInSteps}
use Rattle.oas_shapes.specs.Outlines.{polygon_outline}
use Rattle.oas_shapes.specs.Rules.{AreNear}
use Rattle.oas_shapes.specs.declared.outlines.Made.{Made}

-- from one place to another in grid steps
abbrev pub steps_between : Point → Point → Point
steps_between from to = point (to.x -ℤ from.x) (to.y -ℤ from.y)

-- the same in half units
abbrev pub way_between : Point → Point → Point
way_between from to = doubled (steps_between from to)

abbrev pub low_corner : Frame → Point
low_corner box = point box.x0 box.y0

abbrev pub high_corner : Frame → Point
high_corner box = point box.x1 box.y1

-- the outline of a long list at the position where it was made; it keeps all rules there
pub record IsItsOutline (deltas : Deltas) (made : Made) : Type 0 where
  pub at : IsNearInSteps made.at
  pub outline : made.outline ≡ polygon_outline made.at deltas
  pub near : AreNear made.outline
  pub edges : HasGridEdges made.outline
  -- of so many deltas no rule has to be told where memory is wanting
  pub long : 10 ≤ length deltas.items

-- none was made, or that is its outline
abbrev pub IsMade : Deltas → Option Made → Type 0
IsMade deltas None = Unit {0}
IsMade deltas (Some made) = IsItsOutline deltas made
