-- The winding of a closed polygon at a tile, and the polygon's tiles.
--
-- An edge spans a row where the lesser of its two Y is at most the row and the greater is above it. The winding
-- counts the edges that span the tile's row and have the tile on their right: each that goes up counts 1, each
-- that goes down counts -1. A tile is in the polygon where its winding isn't 0: the nonzero rule, also where the
-- polygon crosses itself. Repeated points and horizontal edges count nothing. This is the textbook's winding
-- number by crossings of a ray, here of the ray from the tile to the left.
use Rattle.std.specs.Prelude.{ℕ, ℤ, pos, ◌-ℤ◌, ◌≢◌, Bool, true, false, ◌&&◌, List, [], ◌∷◌, Option, Some, None, count_by, int_le, int_lt}
use Rattle.half_grid.specs.Lines.{strip_along, first_strip, line_of}
use Rattle.half_grid.specs.declared.plane.Tile.{Tile}
use Rattle.half_grid.specs.declared.plane.Point.{Point}
use Rattle.half_grid.specs.declared.plane.Line.{Line}

-- whether the tile is right of the line, where there is one
abbrev pub is_right_of : Tile → Option Line → Bool
is_right_of t None = false
is_right_of t (Some line) = int_le (first_strip line) (strip_along line t)

-- the row of the tile lies between the Y of the first point and that of the second, which is higher
abbrev pub rises_past : Tile → Point → Point → Bool
rises_past t a b = int_le a.y t.j && int_lt t.j b.y

-- an edge goes up through the tile's row, and has the tile on its right
abbrev pub counts_up : Tile → Point × Point → Bool
counts_up t (a, b) = rises_past t a b && is_right_of t (line_of a b)

-- an edge goes down through the tile's row, and has the tile on its right
abbrev pub counts_down : Tile → Point × Point → Bool
counts_down t (a, b) = rises_past t b a && is_right_of t (line_of a b)

-- the edges of a point list: each point with the next
abbrev pub edges_of : List Point → List (Point × Point)
edges_of [] = []
edges_of (a ∷ []) = []
edges_of (a ∷ b ∷ points) = (a, b) ∷ edges_of (b ∷ points)

unfoldable pub winding : List Point → Tile → ℤ
winding points t = pos (count_by (counts_up t) (edges_of points)) -ℤ pos (count_by (counts_down t) (edges_of points))

abbrev pub IsInPolygon : List Point → Tile → Type 0
IsInPolygon points t = winding points t ≢ pos 0

abbrev pub count_one : Bool → ℕ
count_one true = 1
count_one false = 0

-- what one edge adds to the winding
abbrev pub crossing_of : Tile → Point → Point → ℤ
crossing_of t a b = pos (count_one (counts_up t (a, b))) -ℤ pos (count_one (counts_down t (a, b)))
