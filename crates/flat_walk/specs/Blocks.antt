-- Lists of boxes, with a box round each 64 of them. This is for the contracts of the walk's own functions.
use Rattle.std.specs.Prelude.{◌≡◌, ◌⊎◌, ◌≤ℤ◌, ◌≤◌, ◌<◌, ◌+◌, ◌*◌, ℕ, List, [], Option, Some, None, false, length, slice_get}
use Rattle.std.specs.Borrow.{Bor}
use Rattle.half_grid.specs.Quads.{Corners}
use Rattle.half_grid.specs.Windows.{RowRange}
use Rattle.half_grid.specs.declared.plane.Point.{Point}
use Rattle.half_grid.specs.declared.extent.Frame.{Frame}
use Rattle.layout_model.specs.declared.orient.Orient.{Orient}
use Rattle.flat_walk.specs.Boxes.{IsQuadIn, AreNear, Boxed}
use Rattle.flat_walk.specs.Quads.{quad_image, has_row_in}
use Rattle.flat_walk.specs.ShortBoxes.{side_of}
use Rattle.flat_walk.specs.declared.short_boxes.KeptRows.{KeptRows}

-- the first box has all of the second
pub record IsRound (block box : Frame) : Type 0 where
  pub left : block.x0 ≤ℤ box.x0
  pub bottom : block.y0 ≤ℤ box.y0
  pub right : box.x1 ≤ℤ block.x1
  pub top : box.y1 ≤ℤ block.y1

-- it has all of the boxes from one number on and below another
abbrev pub IsRoundThose : List Frame → ℕ → ℕ → Frame → Type 0
IsRoundThose boxes from end block = (k : ℕ) (box : Frame) → from ≤ k → k < end → slice_get boxes k ≡ Some box → IsRound block box

-- the box has none of the rows
abbrev pub IsBeside : KeptRows → Frame → Type 0
IsBeside rows box = (side_of rows.high ≤ℤ box.y0) ⊎ (box.y1 ≤ℤ side_of rows.low)

-- where its cell is placed so, nothing in a box that has none of these rows has a row in the window
abbrev pub AreRowsFor : RowRange → Orient → Point → KeptRows → Type 0
AreRowsFor window orient at rows = (box : Frame) (q : Corners) → IsBeside rows box → IsQuadIn box q → has_row_in window (quad_image orient at q) ≡ false

-- one box for each 64
pub record AreBlocks (boxes blocks : List Frame) : Type 0 where
  pub whole : length blocks * 64 ≤ length boxes
  pub near : AreNear blocks
  pub around : (b : ℕ) (block : Frame) → slice_get blocks b ≡ Some block → IsRoundThose boxes (b * 64) (b * 64 + 64) block

-- where their cell is placed so, nothing in the boxes from one number on and below another has a row in the window
abbrev pub ShowNothing : RowRange → Orient → Point → List Frame → ℕ → ℕ → Type 0
ShowNothing window orient at boxes from end =
    (k : ℕ) (box : Frame) → from ≤ k → k < end → slice_get boxes k ≡ Some box → (q : Corners) → IsQuadIn box q
    → has_row_in window (quad_image orient at q) ≡ false

-- the boxes, or none
abbrev pub boxes_in : Option (Bor (List Frame)) → List Frame
boxes_in None = []
boxes_in (Some list) = list.now

-- those of all cells, or none
abbrev pub boxed_in : Option (Bor Boxed) → Boxed
boxed_in None = record { shapes = []; spots = [] }
boxed_in (Some boxes) = boxes.now
