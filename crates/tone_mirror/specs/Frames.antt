-- The tiles of a frame: those of its columns x0 <= i < x1 and its rows y0 <= j < y1.
use Rattle.std.specs.Prelude.{◌≤ℤ◌, ◌<ℤ◌}
use Rattle.half_grid.specs.Reach.{IsWithinReach}
use Rattle.half_grid.specs.declared.extent.Frame.{Frame}
use Rattle.half_grid.specs.declared.plane.Tile.{Tile}

-- a frame with columns and rows, within reach
pub record IsFrame (frame : Frame) : Type 0 where
  pub has_columns : frame.x0 <ℤ frame.x1
  pub has_rows : frame.y0 <ℤ frame.y1
  pub x0 : IsWithinReach frame.x0
  pub y0 : IsWithinReach frame.y0
  pub x1 : IsWithinReach frame.x1
  pub y1 : IsWithinReach frame.y1

pub record IsInFrame (frame : Frame) (t : Tile) : Type 0 where
  pub from_left : frame.x0 ≤ℤ t.i
  pub below_right : t.i <ℤ frame.x1
  pub above_bottom : frame.y0 ≤ℤ t.j
  pub below_top : t.j <ℤ frame.y1
