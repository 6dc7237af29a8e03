-- A trapezoid is a shot exactly where its parallel sides are sides, not both of length 0, one above the other.
use Rattle.std.proofs.Common.{ℤ, pos, ◌+ℤ◌, ◌<ℤ◌}
use Rattle.half_grid.specs.Reach.{IsWithinReach}
use Rattle.half_grid.specs.Sides.{IsSide, side_length}
use Rattle.half_grid.specs.Trapezoids.{IsShot, trapezoid}
use Rattle.half_grid.specs.declared.plane.Line.{Line}

pub bottom_side : (y0 y1 : ℤ) (left right : Line) → IsShot (trapezoid y0 y1 left right) → IsSide left right y0
bottom_side y0 y1 left right h = record { left_end = h.reach.bottom_left; right_end = h.reach.bottom_right; not_negative = h.legal.bottom }

pub top_side : (y0 y1 : ℤ) (left right : Line) → IsShot (trapezoid y0 y1 left right) → IsSide left right y1
top_side y0 y1 left right h = record { left_end = h.reach.top_left; right_end = h.reach.top_right; not_negative = h.legal.top }

pub shot_of_sides : (y0 y1 : ℤ) (left right : Line) → IsWithinReach y0 → IsWithinReach y1 → y0 <ℤ y1
    → IsSide left right y0 → IsSide left right y1 → pos 0 <ℤ (side_length left right y0 +ℤ side_length left right y1)
    → IsShot (trapezoid y0 y1 left right)
shot_of_sides y0 y1 left right r0 r1 rows bottom top area = record {
  legal = record { has_rows = rows; bottom = bottom.not_negative; top = top.not_negative; not_flat = area };
  reach = record { y0 = r0; y1 = r1; bottom_left = bottom.left_end; bottom_right = bottom.right_end; top_left = top.left_end; top_right = top.right_end };
}
