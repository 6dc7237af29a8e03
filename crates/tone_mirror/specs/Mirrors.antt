-- Mirror images at the line X = m: the point (x, y) goes to (2m - x, y).
--
-- The cell (i, j) goes to the cell (2m - 1 - i, j), with the sides of its diagonal exchanged. An upright line X = c
-- goes to X = 2m - c. A line X - Y = 2c, which goes up to the right, becomes X + Y = 2(m - c), which goes up to the
-- left, and the other way round. A trapezoid keeps its rows, and its left side becomes the right one.
use Rattle.std.specs.Prelude.{ℤ, pos, ◌-ℤ◌}
use Rattle.half_grid.specs.Halves.{twice}
use Rattle.half_grid.specs.Trapezoids.{Trapezoid, trapezoid, HasCornersWithinReach}
use Rattle.half_grid.specs.declared.plane.Side.{Side}
use Rattle.half_grid.specs.declared.plane.Side.TheVariants.{Left, Right}
use Rattle.half_grid.specs.declared.plane.Tile.{Tile}
use Rattle.half_grid.specs.declared.plane.Line.{Line}
use Rattle.half_grid.specs.declared.plane.Line.TheVariants.{Upright, Rising, Falling}

abbrev pub other_side : Side → Side
other_side Left = Right
other_side Right = Left

abbrev pub mirrored_tile : ℤ → Tile → Tile
mirrored_tile m t = record { i = (twice m -ℤ pos 1) -ℤ t.i; j = t.j; side = other_side t.side }

abbrev pub mirrored_line : ℤ → Line → Line
mirrored_line m (Upright c) = Upright (twice m -ℤ c)
mirrored_line m (Rising c) = Falling (m -ℤ c)
mirrored_line m (Falling c) = Rising (m -ℤ c)

abbrev pub mirrored_trapezoid : ℤ → Trapezoid → Trapezoid
mirrored_trapezoid m z = trapezoid z.y0 z.y1 (mirrored_line m z.right) (mirrored_line m z.left)

abbrev pub HasImageWithinReach : ℤ → Trapezoid → Type 0
HasImageWithinReach m z = HasCornersWithinReach (mirrored_trapezoid m z)
