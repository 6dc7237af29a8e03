-- One step along a path: where the current segment began, the last point reached, the direction of the last move that
-- has one, and what the current segment is longer by at its beginning.
use Rattle.std.specs.Prelude.{Bool, true, false, ℤ, ◌&&◌, not}
use Rattle.half_grid.specs.declared.plane.Point.{Point}
use Rattle.layout_model.specs.declared.directions.Direction.{Direction}
use Rattle.layout_model.specs.declared.directions.Direction.TheVariants.{Still}
use Rattle.layout_model.specs.declared.stretches.Stretch.{Stretch}
use Rattle.layout_model.specs.declared.stretches.Brush.{Brush}
use Rattle.layout_model.specs.declared.stretches.Walk.{Walk}
use Rattle.layout_model.specs.Paths.{direction_of, are_one, later}

abbrev pub is_direction : Direction → Bool
is_direction Still = false
is_direction _ = true

-- both are directions, and they differ
abbrev pub is_turn : Direction → Direction → Bool
is_turn first second = (is_direction first && is_direction second) && not (are_one first second)

-- the point lies in another direction than that of the current segment
abbrev pub turns_at : Walk → Point → Bool
turns_at walk point = is_turn walk.heading (direction_of walk.last point)

-- at the path's first point
abbrev pub walk_from : Brush → Point → Walk
walk_from brush point = record { from = point; last = point; heading = Still; before = brush.begin }

-- on to the point, along the current segment
abbrev pub walk_on : Walk → Point → Walk
walk_on walk point = record { from = walk.from; last = point; heading = later walk.heading (direction_of walk.last point); before = walk.before }

-- on to the point, along a new segment
abbrev pub walk_round : Brush → Walk → Point → Walk
walk_round brush walk point = record { from = walk.last; last = point; heading = direction_of walk.last point; before = brush.half }

-- the current segment as one that ends here
abbrev pub stretch_of : Brush → ℤ → Walk → Stretch
stretch_of brush after walk = record { from = walk.from; to = walk.last; half = brush.half; before = walk.before; after = after }
