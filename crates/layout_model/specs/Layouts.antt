-- What every layout that is read meets. It is on the grid where each outline is closed and each of its edges lies on a
-- line of the half grid's four directions, each move and offset has even coordinates within 2^41 of 0, each point is
-- within 2^42 of 0, the cells' names differ, and no list of offsets is empty.
use Rattle.std.specs.Prelude.{◌≡◌, ◌≢◌, ◌^◌, ℕ, pos, neg_ℤ, ◌≤ℤ◌, true, List, [], ◌∷◌, map, All}
use Rattle.half_grid.specs.Halves.{is_even}
use Rattle.half_grid.specs.Outlines.{IsClosed, HasGridEdges}
use Rattle.half_grid.specs.declared.plane.Point.{Point}
use Rattle.layout_model.specs.Images.{IsOrient}
use Rattle.layout_model.specs.declared.shapes.Shape.{Shape}
use Rattle.layout_model.specs.declared.cells.Placement.{Placement}
use Rattle.layout_model.specs.declared.cells.Cell.{Cell}
use Rattle.layout_model.specs.declared.cells.Layout.{Layout}

-- at most so far from 0 in both coordinates
pub record IsWithin (bound : ℕ) (p : Point) : Type 0 where
  pub x_low : neg_ℤ (pos bound) ≤ℤ p.x
  pub x_high : p.x ≤ℤ pos bound
  pub y_low : neg_ℤ (pos bound) ≤ℤ p.y
  pub y_high : p.y ≤ℤ pos bound

-- a move or an offset: a whole number of grid steps each way, within 2^41 of 0
pub record IsMove (p : Point) : Type 0 where
  pub even_x : is_even p.x ≡ true
  pub even_y : is_even p.y ≡ true
  pub near : IsWithin (2 ^ 41) p

pub record AreOffsets (offsets : List Point) : Type 0 where
  pub nonempty : offsets ≢ []
  pub moves : All IsMove offsets

pub record IsShapeOnGrid (shape : Shape) : Type 0 where
  pub closed : IsClosed shape.points
  pub edges : HasGridEdges shape.points
  pub near : All (IsWithin (2 ^ 42)) shape.points
  pub offsets : AreOffsets shape.offsets

pub record IsPlacementOnGrid (placement : Placement) : Type 0 where
  pub orient : IsOrient placement.orient
  pub at : IsMove placement.at
  pub offsets : AreOffsets placement.offsets

pub record IsCellOnGrid (cell : Cell) : Type 0 where
  pub shapes : All IsShapeOnGrid cell.shapes
  pub placements : All IsPlacementOnGrid cell.placements

-- no name stands twice
abbrev pub AreDistinct : List (List ℕ) → Type 0
AreDistinct [] = Unit {0}
AreDistinct (name ∷ names) = All (λ other. name ≢ other) names × AreDistinct names

-- the names of a layout's cells in order
abbrev pub names_of : Layout → List (List ℕ)
names_of layout = map (λ cell. cell.name) layout.cells

pub record IsLayoutOnGrid (layout : Layout) : Type 0 where
  pub cells : All IsCellOnGrid layout.cells
  pub names : AreDistinct (names_of layout)
