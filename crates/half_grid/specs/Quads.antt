-- Quadrilaterals by their four corners, as closed point lists.
--
-- A quadrilateral here has its corners within reach, and its closed point list runs once round each tile that it
-- covers: the winding is 1 there and 0 at every other tile. So it runs clockwise, up at the left and down at the
-- right.
use Rattle.std.specs.Prelude.{ℤ, pos, ◌≡◌, List, [], ◌∷◌}
use Rattle.half_grid.specs.Reach.{IsPointWithinReach}
use Rattle.half_grid.specs.Lines.{x_on}
use Rattle.half_grid.specs.Winding.{winding, IsInPolygon}
use Rattle.half_grid.specs.Trapezoids.{Trapezoid}
use Rattle.half_grid.specs.declared.plane.Tile.{Tile}
use Rattle.half_grid.specs.declared.plane.Point.{Point}
use Rattle.half_grid.specs.declared.plane.Line.{Line}

-- four corners, in the order of the closed point list
pub record Corners : Type 0 where
  pub a : Point
  pub b : Point
  pub c : Point
  pub d : Point

abbrev pub corners : Point → Point → Point → Point → Corners
corners a b c d = record { a = a; b = b; c = c; d = d }

-- the closed point list
abbrev pub ring_of : Corners → List Point
ring_of q = q.a ∷ q.b ∷ q.c ∷ q.d ∷ q.a ∷ []

pub record IsQuad (q : Corners) : Type 0 where
  pub a : IsPointWithinReach q.a
  pub b : IsPointWithinReach q.b
  pub c : IsPointWithinReach q.c
  pub d : IsPointWithinReach q.d
  pub once : (t : Tile) → IsInPolygon (ring_of q) t → winding (ring_of q) t ≡ pos 1

-- the point of the line at Y
abbrev pub point_on : Line → ℤ → Point
point_on line y = record { x = x_on line y; y = y }

-- a trapezoid's corners, from the lower left one up and round
abbrev pub corners_of : Trapezoid → Corners
corners_of z = corners (point_on z.left z.y0) (point_on z.left z.y1) (point_on z.right z.y1) (point_on z.right z.y0)
