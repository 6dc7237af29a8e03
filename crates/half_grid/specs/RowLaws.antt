-- The arithmetic of one row, as laws over all tiles and lines.
use Rattle.std.specs.Prelude.{ℤ, ◌≤ℤ◌, ◌<ℤ◌, ◌≡◌, ◌↔◌}
use Rattle.half_grid.specs.Tiles.{strips_of}
use Rattle.half_grid.specs.Lines.{IsRightOf, IsLeftOf}
use Rattle.half_grid.specs.Rows.{number_in_row, place}
use Rattle.half_grid.specs.Trapezoids.{Trapezoid, IsLegal}
use Rattle.half_grid.specs.declared.plane.Tile.{Tile}
use Rattle.half_grid.specs.declared.plane.Line.{Line}

-- A tile is right of a line exactly where the line's place in its row is at most its number,
abbrev pub RightByPlace : Type 0
RightByPlace = (t : Tile) (line : Line) → IsRightOf t line ↔ (place line t.j ≤ℤ number_in_row t)

-- and left of it exactly where its number is below that place.
abbrev pub LeftByPlace : Type 0
LeftByPlace = (t : Tile) (line : Line) → IsLeftOf t line ↔ (number_in_row t <ℤ place line t.j)

-- The four strips name the tile.
abbrev pub StripsNameTile : Type 0
StripsNameTile = (t u : Tile) → strips_of t ≡ strips_of u → t ≡ u

-- The row and the number name the tile.
abbrev pub NumberNamesTile : Type 0
NumberNamesTile = (t u : Tile) → t.j ≡ u.j → number_in_row t ≡ number_in_row u → t ≡ u

-- A row and a place name one line.
abbrev pub PlaceNamesLine : Type 0
PlaceNamesLine = (l m : Line) (j : ℤ) → place l j ≡ place m j → l ≡ m

-- In each row of a legal trapezoid the left line's place is below the right line's.
abbrev pub LegalPlaces : Type 0
LegalPlaces = (z : Trapezoid) (j : ℤ) → IsLegal z → z.y0 ≤ℤ j → j <ℤ z.y1 → place z.left j <ℤ place z.right j
