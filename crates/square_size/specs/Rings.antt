-- The ring of a trapezoid that grows by a rectangle of half sides dx and dy: the outline of the trapezoid's Minkowski
-- sum with the rectangle from (-dx, -dy) to (dx, dy).
--
-- It runs clockwise from the lower left corner, up at the left, down at the right. The left side of the trapezoid goes
-- to the left: a slanted one keeps its direction, and below or above it stands an upright piece as high as the
-- rectangle. The right side goes to the right likewise. Where a side is upright, so is that of the ring, and the point
-- between its two pieces falls together with the upper corner.
use Rattle.std.specs.Prelude.{ℤ, pos, ◌+ℤ◌, ◌-ℤ◌, ◌≤ℤ◌, List, [], ◌∷◌}
use Rattle.std.specs.Int.{int_min, int_max}
use Rattle.half_grid.specs.Lines.{x_on}
use Rattle.half_grid.specs.Reach.{IsWithinReach}
use Rattle.half_grid.specs.Trapezoids.{Trapezoid}
use Rattle.half_grid.specs.declared.plane.Point.{Point}
use Rattle.half_grid.specs.declared.plane.Line.{Line}
use Rattle.half_grid.specs.declared.plane.Line.TheVariants.{Upright, Rising, Falling}
use Rattle.square_size.specs.Ranges.{IsRectangle}

abbrev pub point : ℤ → ℤ → Point
point x y = record { x = x; y = y }

abbrev pub lower_left : ℤ → ℤ → Trapezoid → Point
lower_left dx dy z = point (x_on z.left z.y0 -ℤ dx) (z.y0 -ℤ dy)

abbrev pub upper_left : ℤ → ℤ → Trapezoid → Point
upper_left dx dy z = point (x_on z.left z.y1 -ℤ dx) (z.y1 +ℤ dy)

abbrev pub lower_right : ℤ → ℤ → Trapezoid → Point
lower_right dx dy z = point (x_on z.right z.y0 +ℤ dx) (z.y0 -ℤ dy)

abbrev pub upper_right : ℤ → ℤ → Trapezoid → Point
upper_right dx dy z = point (x_on z.right z.y1 +ℤ dx) (z.y1 +ℤ dy)

-- the point between the two pieces of the left side
abbrev pub left_bend : ℤ → ℤ → ℤ → ℤ → Line → Point
left_bend dx dy y0 y1 (Upright c) = point (c -ℤ dx) (y1 +ℤ dy)
left_bend dx dy y0 y1 (Rising c) = point (x_on (Rising c) y0 -ℤ dx) (y0 +ℤ dy)
left_bend dx dy y0 y1 (Falling c) = point (x_on (Falling c) y1 -ℤ dx) (y1 -ℤ dy)

-- the point between the two pieces of the right side
abbrev pub right_bend : ℤ → ℤ → ℤ → ℤ → Line → Point
right_bend dx dy y0 y1 (Upright c) = point (c +ℤ dx) (y1 +ℤ dy)
right_bend dx dy y0 y1 (Rising c) = point (x_on (Rising c) y1 +ℤ dx) (y1 -ℤ dy)
right_bend dx dy y0 y1 (Falling c) = point (x_on (Falling c) y0 +ℤ dx) (y0 +ℤ dy)

-- the closed ring
abbrev pub grown_ring : ℤ → ℤ → Trapezoid → List Point
grown_ring dx dy z =
    lower_left dx dy z ∷ left_bend dx dy z.y0 z.y1 z.left ∷ upper_left dx dy z
    ∷ upper_right dx dy z ∷ right_bend dx dy z.y0 z.y1 z.right ∷ lower_right dx dy z ∷ lower_left dx dy z ∷ []

-- the half sides that a deck may name: up to 65,536 half units, with an even sum
pub record IsSizing (dx dy : ℤ) : Type 0 where
  pub rectangle : IsRectangle dx dy
  pub columns : dx ≤ℤ pos 65536
  pub rows : dy ≤ℤ pos 65536

-- the box round the ring is within reach
pub record HasRingWithinReach (dx dy : ℤ) (z : Trapezoid) : Type 0 where
  pub left : IsWithinReach (int_min (x_on z.left z.y0) (x_on z.left z.y1) -ℤ dx)
  pub right : IsWithinReach (int_max (x_on z.right z.y0) (x_on z.right z.y1) +ℤ dx)
  pub bottom : IsWithinReach (z.y0 -ℤ dy)
  pub top : IsWithinReach (z.y1 +ℤ dy)
