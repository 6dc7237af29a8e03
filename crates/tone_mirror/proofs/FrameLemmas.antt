-- The tiles of a frame's rectangle.
use Rattle.std.proofs.Common.{◌↔◌}
use Rattle.half_grid.specs.Trapezoids.{IsInTrapezoid, trapezoid}
use Rattle.half_grid.specs.declared.extent.Frame.{Frame}
use Rattle.half_grid.specs.declared.plane.Line.TheVariants.{Upright}
use Rattle.half_grid.specs.declared.plane.Tile.{Tile}
use Rattle.tone_mirror.specs.Frames.{IsInFrame}

pub rectangle_has_tile : (frame : Frame) (t : Tile) → IsInTrapezoid (trapezoid frame.y0 frame.y1 (Upright frame.x0) (Upright frame.x1)) t ↔ IsInFrame frame t
rectangle_has_tile frame t = (
  λ h. record { from_left = h.right_of_left; below_right = h.left_of_right; above_bottom = h.above_bottom; below_top = h.below_top },
  λ h. record { above_bottom = h.above_bottom; below_top = h.below_top; right_of_left = h.from_left; left_of_right = h.below_right },
)
