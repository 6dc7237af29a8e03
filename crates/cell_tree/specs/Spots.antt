-- What a placement shows in the cell that has it, of whatever pair.
use Rattle.std.specs.Prelude.{◌≡◌, ℕ, List, Some, slice_get}
use Rattle.half_grid.specs.declared.plane.Point.{Point}
use Rattle.layout_model.specs.Images.{image_of, moved}
use Rattle.layout_model.specs.declared.pair.Pair.{Pair}
use Rattle.layout_model.specs.declared.cells.Placement.{Placement}
use Rattle.layout_model.specs.declared.cells.Cell.{Cell}
use Rattle.cell_tree.specs.Cells.{cell_number}
use Rattle.cell_tree.specs.Flattening.{IsVertex}

-- a vertex of the placed cell, at one of the placement's offsets
pub record IsSpotVertex (cells : List Cell) (placement : Placement) (p : Point) : Type 0 where
  pub target : ℕ
  pub targeted : cell_number cells placement.target ≡ Some target
  pub place : ℕ
  pub by : Point
  pub offset : slice_get placement.offsets place ≡ Some by
  pub pair : Pair
  pub v : Point
  pub vertex : IsVertex cells target pair v
  pub is : image_of placement.orient (moved by placement.at) v ≡ p
