-- Outlines of four corners that are one trapezoid: two of their sides are level.
use Rattle.std.specs.Prelude.{◌≡◌, ◌⊎◌, ◌+ℤ◌, Some, List}
use Rattle.half_grid.specs.Lines.{line_of}
use Rattle.half_grid.specs.Trapezoids.{Trapezoid, IsShot, trapezoid}
use Rattle.half_grid.specs.Winding.{winding, crossing_of}
use Rattle.half_grid.specs.declared.plane.Tile.{Tile}
use Rattle.half_grid.specs.declared.plane.Point.{Point}
use Rattle.bool_ops.specs.declared.lone.Sides.{Sides}
use Rattle.bool_ops.specs.declared.lone.Slab.{Slab}

-- The outline's winding is that of these two sides alone, which go between the same two Y, one up and one down.
pub record HasSides (points : List Point) (s : Sides) : Type 0 where
  pub windings : (t : Tile) → winding points t ≡ crossing_of t s.first.from s.first.to +ℤ crossing_of t s.second.from s.second.to
  pub near : s.first.to.y ≡ s.second.from.y
  pub far : s.second.to.y ≡ s.first.from.y

-- the rows between the two sides, and the lines of these
pub record IsSlabOf (s : Sides) (slab : Slab) : Type 0 where
  pub first : line_of s.first.from s.first.to ≡ Some slab.first
  pub second : line_of s.second.from s.second.to ≡ Some slab.second
  pub rows : ((slab.y0 ≡ s.first.from.y) × (slab.y1 ≡ s.first.to.y)) ⊎ ((slab.y0 ≡ s.first.to.y) × (slab.y1 ≡ s.first.from.y))

-- the trapezoid of these rows between these lines, whichever of them is the left one
pub record IsBetween (slab : Slab) (z : Trapezoid) : Type 0 where
  pub shot : IsShot z
  pub is : (z ≡ trapezoid slab.y0 slab.y1 slab.first slab.second) ⊎ (z ≡ trapezoid slab.y0 slab.y1 slab.second slab.first)
