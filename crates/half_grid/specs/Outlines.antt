-- Closed outlines on the half grid. A point list is closed where its last point is its first. An edge is on the grid
-- where it is horizontal or lies on a line of one of the three other kinds.
use Rattle.std.specs.Prelude.{◌≡◌, ◌⊎◌, List, [], ◌∷◌, All}
use Rattle.half_grid.specs.Lines.{Passes}
use Rattle.half_grid.specs.Winding.{edges_of}
use Rattle.half_grid.specs.declared.plane.Point.{Point}
use Rattle.half_grid.specs.declared.plane.Line.{Line}

-- the last point of a list that begins so
abbrev pub last_of : Point → List Point → Point
last_of a [] = a
last_of a (b ∷ points) = last_of b points

abbrev pub IsClosed : List Point → Type 0
IsClosed [] = ⊥
IsClosed (a ∷ points) = last_of a points ≡ a

-- some line passes through both points
abbrev pub ShareLine : Point → Point → Type 0
ShareLine a b = (line : Line) × Passes line a × Passes line b

abbrev pub IsOnGrid : Point × Point → Type 0
IsOnGrid (a, b) = (a.y ≡ b.y) ⊎ ShareLine a b

abbrev pub HasGridEdges : List Point → Type 0
HasGridEdges points = All IsOnGrid (edges_of points)
