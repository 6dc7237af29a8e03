-- Boxes round what the shapes and placements of a tree's cells show: for each shape a box that has the corners of all its
-- pieces, at each of its places, and for each placement one that has the placed cell, at each of its. They are kept by the
-- number of the cell and the number of the shape or placement in it.
use Rattle.std.specs.Prelude.{◌≡◌, ◌^◌, ℕ, List, [], ◌∷◌, Some, get_or, slice_get, All}
use Rattle.half_grid.specs.Quads.{Corners}
use Rattle.half_grid.specs.Trapezoids.{Trapezoid}
use Rattle.half_grid.specs.declared.extent.Frame.{Frame}
use Rattle.half_grid.specs.declared.plane.Point.{Point}
use Rattle.layout_model.specs.Hulls.{IsInBox}
use Rattle.layout_model.specs.declared.shapes.Shape.{Shape}
use Rattle.layout_model.specs.declared.cells.Placement.{Placement}
use Rattle.layout_model.specs.declared.cells.Cell.{Cell}
use Rattle.cell_tree.specs.Boxes.{IsBoxUpTo}
use Rattle.cell_tree.specs.Cells.{shapes_at, placements_at}
use Rattle.cell_tree.specs.Chains.{IsReachable}
use Rattle.cell_tree.specs.Spots.{IsSpotVertex}
use Rattle.flat_walk.specs.Tables.{lists_at}
use Rattle.flat_walk.specs.Walks.{pieces_of_shape}

pub record IsQuadIn (box : Frame) (q : Corners) : Type 0 where
  pub a : IsInBox box q.a
  pub b : IsInBox box q.b
  pub c : IsInBox box q.c
  pub d : IsInBox box q.d

-- the box is round all that the shape shows, and not too far away
pub record HasBox (shape : Shape) (pieces : List Trapezoid) (box : Frame) : Type 0 where
  pub around : All (IsQuadIn box) (pieces_of_shape shape pieces)
  pub near : IsBoxUpTo (2 ^ 53) box

-- the boxes are those of the first shapes, one after another
abbrev pub AreBoxed : List Shape → List (List Trapezoid) → List Frame → Type 0
AreBoxed shapes lists [] = Unit {0}
AreBoxed (shape ∷ shapes) (pieces ∷ lists) (box ∷ boxes) = HasBox shape pieces box × AreBoxed shapes lists boxes
AreBoxed shapes lists (box ∷ boxes) = ⊥

-- each of the boxes is not too far away
abbrev pub AreNear : List Frame → Type 0
AreNear boxes = (k : ℕ) (box : Frame) → slice_get boxes k ≡ Some box → IsBoxUpTo (2 ^ 53) box

abbrev pub boxes_at : List (List Frame) → ℕ → List Frame
boxes_at table n = get_or table n []

-- the boxes are round what the first placements show, of whatever pair
abbrev pub AreSpots : List Cell → List Placement → List Frame → Type 0
AreSpots cells placements boxes =
    (k : ℕ) (placement : Placement) (box : Frame) (p : Point) → slice_get placements k ≡ Some placement
    → slice_get boxes k ≡ Some box → IsSpotVertex cells placement p → IsInBox box p

-- the boxes of the shapes and placements of each cell
pub record Boxed : Type 0 where
  pub shapes : List (List Frame)
  pub spots : List (List Frame)

pub record AreAllBoxed (cells : List Cell) (top : ℕ) (table : List (List (List Trapezoid))) (boxes : Boxed) : Type 0 where
  pub shapes : (n : ℕ) → AreBoxed (shapes_at cells n) (lists_at table n) (boxes_at boxes.shapes n)
  pub spots : (n : ℕ) → IsReachable cells top n → AreSpots cells (placements_at cells n) (boxes_at boxes.spots n)
