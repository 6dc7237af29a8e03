-- The numbers of a shot's record are near to 0, so they are narrow.
use Rattle.std.proofs.Common.{◌≤◌, ◌<◌, ◌^◌, ℕ, ℤ, pos, negsuc, ◌-ℤ◌, ◌≤ℤ◌, neg_ℤ, unsigned_abs, arith}
use Rattle.std.proofs.lemmas.Int.{ints, clamps}
use Rattle.std.specs.Int.{int_min, int_max}
use Rattle.half_grid.specs.Lines.{x_on}
use Rattle.half_grid.specs.Reach.{IsWithinReach}
use Rattle.half_grid.specs.Trapezoids.{Trapezoid, IsShot, box_width}
use Rattle.oas_lex.specs.ShotText.{AreNarrow, left_delta, right_delta, least_x, fields_of}
use Rattle.oas_lex.specs.ShotLaws.{IsNarrowPair}

near_by : (z : ℤ) → neg_ℤ (pos (2 ^ 46)) ≤ℤ z → z ≤ℤ pos (2 ^ 46) → unsigned_abs z ≤ 2 ^ 46
near_by (pos n) h g = omega (arith, ints)
near_by (negsuc n) h g = omega (arith, ints)

near_difference : (a b : ℤ) → IsWithinReach a → IsWithinReach b → unsigned_abs (a -ℤ b) ≤ 2 ^ 46
near_difference a b h g = near_by (a -ℤ b) (omega (arith, ints, h.low, h.high, g.low, g.high)) (omega (arith, ints, h.low, h.high, g.low, g.high))

near_least : (a b : ℤ) → IsWithinReach a → IsWithinReach b → unsigned_abs (int_min a b) ≤ 2 ^ 46
near_least a b h g = near_by (int_min a b) (omega (arith, ints, clamps, h.low, h.high, g.low, g.high))
    (omega (arith, ints, clamps, h.low, h.high, g.low, g.high))

near_box : (a b c d : ℤ) → IsWithinReach a → IsWithinReach b → IsWithinReach c → IsWithinReach d → unsigned_abs (int_max c d -ℤ int_min a b) ≤ 2 ^ 46
near_box a b c d h g i j =
    near_by (int_max c d -ℤ int_min a b)
    (omega (arith, ints, clamps, h.low, h.high, g.low, g.high, i.low, i.high, j.low, j.high))
    (omega (arith, ints, clamps, h.low, h.high, g.low, g.high, i.low, i.high, j.low, j.high))

pub width_near : (z : Trapezoid) → IsShot z → unsigned_abs (box_width z) ≤ 2 ^ 46
width_near z h = near_box (x_on z.left z.y0) (x_on z.left z.y1) (x_on z.right z.y0)
    (x_on z.right z.y1) h.reach.bottom_left h.reach.top_left h.reach.bottom_right h.reach.top_right

pub rows_near : (z : Trapezoid) → IsShot z → unsigned_abs (z.y1 -ℤ z.y0) ≤ 2 ^ 46
rows_near z h = near_difference z.y1 z.y0 h.reach.y1 h.reach.y0

pub left_near : (z : Trapezoid) → IsShot z → unsigned_abs (left_delta z) ≤ 2 ^ 46
left_near z h = near_difference (x_on z.left z.y1) (x_on z.left z.y0) h.reach.top_left h.reach.bottom_left

pub right_near : (z : Trapezoid) → IsShot z → unsigned_abs (right_delta z) ≤ 2 ^ 46
right_near z h = near_difference (x_on z.right z.y1) (x_on z.right z.y0) h.reach.top_right h.reach.bottom_right

pub x_near : (z : Trapezoid) → IsShot z → unsigned_abs (least_x z) ≤ 2 ^ 46
x_near z h = near_least (x_on z.left z.y0) (x_on z.left z.y1) h.reach.bottom_left h.reach.top_left

pub bottom_near : (z : Trapezoid) → IsShot z → unsigned_abs z.y0 ≤ 2 ^ 46
bottom_near z h = near_by z.y0 (omega (arith, ints, h.reach.y0.low, h.reach.y0.high)) (omega (arith, ints, h.reach.y0.low, h.reach.y0.high))

below_62 : (n : ℕ) → n ≤ 2 ^ 46 → n < 2 ^ 62
below_62 n h = omega arith

below_63 : (n : ℕ) → n ≤ 2 ^ 46 → n < 2 ^ 63
below_63 n h = omega arith

pub left_narrow : (z : Trapezoid) → IsShot z → unsigned_abs (left_delta z) < 2 ^ 62
left_narrow z h = below_62 _ (left_near z h)

pub right_narrow : (z : Trapezoid) → IsShot z → unsigned_abs (right_delta z) < 2 ^ 62
right_narrow z h = below_62 _ (right_near z h)

pub x_narrow : (z : Trapezoid) → IsShot z → unsigned_abs (least_x z) < 2 ^ 62
x_narrow z h = below_62 _ (x_near z h)

pub bottom_narrow : (z : Trapezoid) → IsShot z → unsigned_abs z.y0 < 2 ^ 62
bottom_narrow z h = below_62 _ (bottom_near z h)

pub width_narrow : (z : Trapezoid) → IsShot z → unsigned_abs (box_width z) < 2 ^ 63
width_narrow z h = below_63 _ (width_near z h)

pub rows_narrow : (z : Trapezoid) → IsShot z → unsigned_abs (z.y1 -ℤ z.y0) < 2 ^ 63
rows_narrow z h = below_63 _ (rows_near z h)

pub shot_narrow : (l d : ℕ) (z : Trapezoid) → IsNarrowPair l d → IsShot z → AreNarrow (fields_of l d z)
shot_narrow l d z p h = record {
  layer = p.layer_bits;
  datatype = p.datatype_bits;
  width = width_narrow z h;
  height = rows_narrow z h;
  left = left_narrow z h;
  right = right_narrow z h;
  x = x_narrow z h;
  y = bottom_narrow z h;
}
