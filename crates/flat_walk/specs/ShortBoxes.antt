-- Boxes whose sides are kept in 32 bits. The least number of 32 bits stands for the lowest place that a side may have, and the
-- greatest one for the highest, so that each box has one round it that is kept so. Sides are in half units.
use Rattle.std.specs.Prelude.{◌<ℤ◌, ◌^◌, ◌-◌, ℤ, pos, neg_ℤ, if◌then◌else◌}
use Rattle.std.specs.Ordering.{int_eq}
use Rattle.half_grid.specs.declared.extent.Frame.{Frame}
use Rattle.layout_model.specs.Kept.{IsShort}
use Rattle.flat_walk.specs.declared.short_boxes.ShortBox.TheInside.{Inside}

-- the place of a side that is kept so
abbrev pub side_of : ℤ → ℤ
side_of z = if int_eq z (neg_ℤ (pos (2 ^ 31))) then neg_ℤ (pos (2 ^ 53))
    else if int_eq z (pos (2 ^ 31 - 1)) then pos (2 ^ 53) else z

-- as what a place is kept
abbrev pub side_from : ℤ → ℤ
side_from z = if int_eq z (neg_ℤ (pos (2 ^ 53))) then neg_ℤ (pos (2 ^ 31))
    else if int_eq z (pos (2 ^ 53)) then pos (2 ^ 31 - 1) else z

-- a place that is kept as it is
pub record IsKeptSide (z : ℤ) : Type 0 where
  pub low : neg_ℤ (pos (2 ^ 31)) <ℤ z
  pub high : z <ℤ pos (2 ^ 31 - 1)

pub record IsKeptBox (frame : Frame) : Type 0 where
  pub x0 : IsKeptSide frame.x0
  pub y0 : IsKeptSide frame.y0
  pub x1 : IsKeptSide frame.x1
  pub y1 : IsKeptSide frame.y1

abbrev pub frame_of : Inside → Frame
frame_of sides = record { x0 = side_of sides.x0; y0 = side_of sides.y0; x1 = side_of sides.x1; y1 = side_of sides.y1 }

abbrev pub box_from : Frame → Inside
box_from frame = record { x0 = side_from frame.x0; y0 = side_from frame.y0; x1 = side_from frame.x1; y1 = side_from frame.y1 }

pub record AreShort (sides : Inside) : Type 0 where
  pub x0 : IsShort sides.x0
  pub y0 : IsShort sides.y0
  pub x1 : IsShort sides.x1
  pub y1 : IsShort sides.y1
