-- What holds of every path: each of its segments goes somewhere; where no move is diagonal, along one axis; and where
-- none goes back, square to the segment before it. And what holds of the outline of every rectangle: it is closed, its
-- edges are on the grid, and it winds once round the tiles of the rectangle and round no other.
use Rattle.std.specs.Prelude.{◌≡◌, ◌≢◌, ◌⊎◌, ℕ, ◌+◌, ◌^◌, false, Some, slice_get, pos, ◌≤ℤ◌, ◌<ℤ◌, List, All}
use Rattle.half_grid.specs.Outlines.{IsClosed, HasGridEdges}
use Rattle.half_grid.specs.Winding.{winding}
use Rattle.half_grid.specs.declared.plane.Tile.{Tile}
use Rattle.half_grid.specs.declared.plane.Point.{Point}
use Rattle.layout_model.specs.declared.directions.Direction.{Direction}
use Rattle.layout_model.specs.declared.directions.Direction.TheVariants.{Still}
use Rattle.layout_model.specs.Layouts.{IsWithin}
use Rattle.layout_model.specs.declared.rectangles.Rectangle.{Rectangle}
use Rattle.layout_model.specs.Paths.{direction_of, are_one, are_opposite, segments_of, rectangle_ring, HasNoDiagonal, HasNoTurnBack}
use Rattle.layout_model.specs.PathBounds.{HasTiles}

abbrev pub GoesSomewhere : Point × Point → Type 0
GoesSomewhere (a, b) = direction_of a b ≢ Still

abbrev pub SegmentsGoSomewhere : Type 0
SegmentsGoSomewhere = (points : List Point) → All GoesSomewhere (segments_of points)

-- the two points agree in X or in Y
abbrev pub IsAlongAxis : Point × Point → Type 0
IsAlongAxis (a, b) = (a.x ≡ b.x) ⊎ (a.y ≡ b.y)

abbrev pub SegmentsAreAlongAxes : Type 0
SegmentsAreAlongAxes = (points : List Point) → HasNoDiagonal points → All IsAlongAxis (segments_of points)

-- neither on nor back
abbrev pub IsSquareTurn : Direction → Direction → Type 0
IsSquareTurn before after = (are_one before after ≡ false) × (are_opposite before after ≡ false)

abbrev pub SegmentsTurnSquarely : Type 0
SegmentsTurnSquarely = (points : List Point) → HasNoTurnBack points → (k : ℕ) (a b c d : Point)
    → slice_get (segments_of points) k ≡ Some (a, b) → slice_get (segments_of points) (k + 1) ≡ Some (c, d)
    → IsSquareTurn (direction_of a b) (direction_of c d)

-- the tile's column and row are among those of the rectangle
pub record IsInRectangle (r : Rectangle) (t : Tile) : Type 0 where
  pub left : r.x0 ≤ℤ t.i
  pub right : t.i <ℤ r.x1
  pub bottom : r.y0 ≤ℤ t.j
  pub top : t.j <ℤ r.y1

abbrev pub RingIsClosed : Type 0
RingIsClosed = (r : Rectangle) → IsClosed (rectangle_ring r)

abbrev pub RingIsOnGrid : Type 0
RingIsOnGrid = (r : Rectangle) → HasGridEdges (rectangle_ring r)

abbrev pub RingWindsInside : Type 0
RingWindsInside = (r : Rectangle) (t : Tile) → HasTiles r → IsInRectangle r t → winding (rectangle_ring r) t ≡ pos 1

abbrev pub RingWindsNotOutside : Type 0
RingWindsNotOutside = (r : Rectangle) (t : Tile) → HasTiles r → (IsInRectangle r t → ⊥) → winding (rectangle_ring r) t ≡ pos 0

-- an outline of a layout: it is closed, its edges are on the grid, and its points are within 2^42 of 0
pub record IsOutline (points : List Point) : Type 0 where
  pub closed : IsClosed points
  pub edges : HasGridEdges points
  pub near : All (IsWithin (2 ^ 42)) points
