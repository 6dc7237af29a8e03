-- What follows from being within reach.
use Rattle.std.proofs.Common.{ℤ, pos, ◌≤ℤ◌, ◌<ℤ◌, ◌^◌, neg_ℤ, arith}
use Rattle.std.proofs.lemmas.Int.{ints}
use Rattle.half_grid.specs.Lines.{x_on, first_strip, IsRightOf, IsLeftOf}
use Rattle.half_grid.specs.Reach.{IsWithinReach, IsTileWithinReach}
use Rattle.half_grid.specs.Trapezoids.{Trapezoid, IsShot, IsInTrapezoid}
use Rattle.half_grid.specs.declared.plane.Tile.{Tile}
use Rattle.half_grid.proofs.StripBounds.{i_low, i_high}
use Rattle.half_grid.proofs.Places.{place_at_most, number_below}
use Rattle.half_grid.specs.declared.plane.Line.{Line}
use Rattle.half_grid.specs.declared.plane.Line.TheVariants.{Upright, Rising, Falling}

-- a line that is within reach at a Y within reach has its own number within reach
pub strip_within : (line : Line) (y : ℤ) → IsWithinReach y → IsWithinReach (x_on line y) → IsWithinReach (first_strip line)
strip_within (Upright c) y hy hx = hx
strip_within (Rising c) y hy hx = record { low = omega (arith, ints); high = omega (arith, ints) }
strip_within (Falling c) y hy hx = record { low = omega (arith, ints); high = omega (arith, ints) }

-- between two Y at which a line is within reach, it is within reach
left_reach : (line : Line) (y0 y1 : ℤ) (t : Tile) → IsWithinReach (x_on line y0) → IsWithinReach (x_on line y1)
    → y0 ≤ℤ t.j → t.j <ℤ y1 → IsRightOf t line → neg_ℤ (pos (2 ^ 44)) ≤ℤ t.i
left_reach (Upright c) y0 y1 t h0 h1 a b r = omega (arith, ints)
left_reach (Rising c) y0 y1 t h0 h1 a b r = let p = place_at_most t (Rising c) r in omega (arith, ints, i_high t, h0.low)
left_reach (Falling c) y0 y1 t h0 h1 a b r = let p = place_at_most t (Falling c) r in omega (arith, ints, i_high t, h1.low)

right_reach : (line : Line) (y0 y1 : ℤ) (t : Tile) → IsWithinReach (x_on line y0) → IsWithinReach (x_on line y1)
    → y0 ≤ℤ t.j → t.j <ℤ y1 → IsLeftOf t line → t.i ≤ℤ pos (2 ^ 44)
right_reach (Upright c) y0 y1 t h0 h1 a b r = omega (arith, ints)
right_reach (Rising c) y0 y1 t h0 h1 a b r = let p = number_below t (Rising c) r in omega (arith, ints, i_low t, h1.high)
right_reach (Falling c) y0 y1 t h0 h1 a b r = let p = number_below t (Falling c) r in omega (arith, ints, i_low t, h0.high)

-- a tile of a shot is within reach
pub tile_of_shot_within : (z : Trapezoid) (t : Tile) → IsShot z → IsInTrapezoid z t → IsTileWithinReach t
tile_of_shot_within z t s h = record {
  column = record {
    low = left_reach z.left z.y0 z.y1 t s.reach.bottom_left s.reach.top_left h.above_bottom h.below_top h.right_of_left;
    high = right_reach z.right z.y0 z.y1 t s.reach.bottom_right s.reach.top_right h.above_bottom h.below_top h.left_of_right;
  };
  row = record { low = omega (arith, ints, h.above_bottom, s.reach.y0.low); high = omega (arith, ints, h.below_top, s.reach.y1.high) };
}
