-- What a walk keeps of the cell that it entered last, and what that still shows. This is for the contracts of the walk's
-- own functions.
use Rattle.std.specs.Prelude.{◌≡◌, ◌^◌, ◌+◌, ◌-◌, ◌<◌, ℕ, List, [], ◌∷◌, ◌++◌, Option, Some, map, length, drop, All}
use Rattle.half_grid.specs.Quads.{Corners, corners_of}
use Rattle.half_grid.specs.Trapezoids.{Trapezoid}
use Rattle.half_grid.specs.declared.plane.Point.{Point}
use Rattle.half_grid.specs.declared.extent.Frame.{Frame}
use Rattle.layout_model.specs.Hulls.{IsInBox}
use Rattle.layout_model.specs.Images.{IsOrient}
use Rattle.layout_model.specs.Layouts.{IsShapeOnGrid, IsWithin}
use Rattle.layout_model.specs.declared.pair.Pair.{Pair}
use Rattle.layout_model.specs.declared.shapes.Shape.{Shape}
use Rattle.flat_walk.specs.Boxes.{IsQuadIn, AreBoxed}
use Rattle.flat_walk.specs.Blocks.{boxes_in}
use Rattle.flat_walk.specs.EntryLists.{entries_in}
use Rattle.flat_walk.specs.Kept.{Entry, all_lists, AreSingle}
use Rattle.flat_walk.specs.PieceLists.{listed, AreShots}
use Rattle.flat_walk.specs.Ways.{IsBetweenRows}
use Rattle.flat_walk.specs.declared.rows.Rows.{Rows}
use Rattle.flat_walk.specs.Rests.{placed_list, placed_rest}
use Rattle.flat_walk.specs.declared.owned.Hand.{Hand}
use Rattle.flat_walk.specs.declared.owned.Cursor.{Cursor}
use Rattle.flat_walk.specs.declared.owned.Own.{Own}

abbrev pub hand_list : Hand → List Corners
hand_list hand = placed_list hand.orient hand.at (listed hand.pieces)

pub record IsHand (hand : Hand) : Type 0 where
  pub orient : IsOrient hand.orient
  pub near : IsWithin (2 ^ 60) hand.at
  pub shots : AreShots hand.pieces

abbrev pub shapes_left : Cursor → List Shape
shapes_left cursor = drop cursor.number cursor.shapes.now

abbrev pub cursor_list : Pair → Cursor → List Corners
cursor_list pair cursor = placed_rest cursor.orient cursor.at pair (shapes_left cursor) (all_lists (entries_in cursor.lists)) cursor.place

pub record IsCursor (cursor : Cursor) : Type 0 where
  pub orient : IsOrient cursor.orient
  pub near : IsWithin (2 ^ 54) cursor.at
  pub grid : All IsShapeOnGrid cursor.shapes.now
  pub single : AreSingle (cursor.single - cursor.number) (entries_in cursor.lists)
  pub boxed : AreBoxed (shapes_left cursor) (all_lists (entries_in cursor.lists)) (drop cursor.number (boxes_in cursor.boxes))

-- the first shape that is left, and there is a number after its own
pub record IsFirst (cursor : Cursor) (shape : Shape) : Type 0 where
  pub is : shapes_left cursor ≡ shape ∷ drop (cursor.number + 1) cursor.shapes.now
  pub few : cursor.number + 1 < 2 ^ 64

-- how many shapes the first entry stands for, or one where there is no entry
abbrev pub first_count : List Entry → ℕ
first_count [] = 1
first_count (entry ∷ entries) = entry.more + 1

-- from the first entry on to the next
pub record IsNext (before after : Cursor) : Type 0 where
  pub shapes : shapes_left after ≡ drop (first_count (entries_in before.lists)) (shapes_left before)
  pub lists : entries_in after.lists ≡ drop 1 (entries_in before.lists)
  pub place : after.place ≡ 0
  pub orient : after.orient ≡ before.orient
  pub at : after.at ≡ before.at

-- how many shapes and offsets there are
abbrev pub steps_of : List Shape → ℕ
steps_of [] = 0
steps_of (shape ∷ shapes) = (length shape.offsets + 1) + steps_of shapes

-- of the first shape the offsets from this number on
abbrev pub steps_from : List Shape → ℕ → ℕ
steps_from [] place = 0
steps_from (shape ∷ shapes) place = (length (drop place shape.offsets) + 1) + steps_of shapes

abbrev pub steps_left : Cursor → ℕ
steps_left cursor = steps_from (shapes_left cursor) cursor.place

abbrev pub own_rest : Pair → Own → List (Option Corners)
own_rest pair own = map Some (hand_list own.hand) ++ map Some (cursor_list pair own.cursor)

pub record IsOwn (own : Own) : Type 0 where
  pub hand : IsHand own.hand
  pub cursor : IsCursor own.cursor

-- the first shape has a place of the cursor's number, and its pieces are in a box whose rows, as they are placed, are these
pub record IsLongRun (cursor : Cursor) (shape : Shape) (rows : Rows) : Type 0 where
  pub pieces : List Trapezoid
  pub later : List (List Trapezoid)
  pub box : Frame
  pub lists : all_lists (entries_in cursor.lists) ≡ pieces ∷ later
  pub around : All (λ piece. IsQuadIn box (corners_of piece)) pieces
  pub between : (p : Point) → IsInBox box p → IsBetweenRows cursor.orient rows.low rows.high p
  pub near : IsWithin (2 ^ 58) (record { x = rows.low; y = rows.high })
  pub inside : cursor.place < length shape.offsets
