-- The place of what isn't moved.
use Rattle.std.specs.Prelude.{pos}
use Rattle.half_grid.specs.declared.plane.Point.{Point}

abbrev pub origin : Point
origin = record { x = pos 0; y = pos 0 }
