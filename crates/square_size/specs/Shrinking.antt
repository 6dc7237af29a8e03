-- What shrinking by a square of half side d leaves of one trapezoid: its rows but for d at each end, between its left line
-- moved right by d strips and its right line moved left by d strips. That needn't be a legal trapezoid: the lines may cross.
use Rattle.std.specs.Prelude.{ℤ, pos, ◌+ℤ◌, ◌-ℤ◌, ◌≤ℤ◌, ◌^◌, neg_ℤ}
use Rattle.half_grid.specs.Lines.{first_strip, x_on}
use Rattle.half_grid.specs.Reach.{IsWithinReach}
use Rattle.half_grid.specs.Trapezoids.{Trapezoid, trapezoid}
use Rattle.half_grid.specs.declared.plane.Line.{Line}
use Rattle.half_grid.specs.declared.plane.Line.TheVariants.{Upright, Rising, Falling}
use Rattle.square_size.specs.declared.shrinking.Band.{Band}

-- the line moved right by so many strips of the kind that it bounds
abbrev pub moved : ℤ → Line → Line
moved by (Upright c) = Upright (c +ℤ by)
moved by (Rising c) = Rising (c +ℤ by)
moved by (Falling c) = Falling (c +ℤ by)

abbrev pub inner : ℤ → Trapezoid → Trapezoid
inner d z = trapezoid (z.y0 +ℤ d) (z.y1 -ℤ d) (moved d z.left) (moved (pos 0 -ℤ d) z.right)

-- at most twice as far from 0 as what is within reach
pub record IsNearReach (z : ℤ) : Type 0 where
  pub low : neg_ℤ (pos (2 ^ 45)) ≤ℤ z
  pub high : z ≤ℤ pos (2 ^ 45)

-- both points of two lines at a Y
pub record AreWithinReach (left right : Line) (y : ℤ) : Type 0 where
  pub height : IsWithinReach y
  pub left_end : IsWithinReach (x_on left y)
  pub right_end : IsWithinReach (x_on right y)

-- Rows between two lines that may cross, which are within reach wherever they are in order.
pub record IsBand (z : Trapezoid) : Type 0 where
  pub y0 : IsNearReach z.y0
  pub y1 : IsNearReach z.y1
  pub left : IsNearReach (first_strip z.left)
  pub right : IsNearReach (first_strip z.right)
  pub in_order : (y : ℤ) → z.y0 ≤ℤ y → y ≤ℤ z.y1 → x_on z.left y ≤ℤ x_on z.right y → AreWithinReach z.left z.right y

abbrev pub rows_of : Band → Trapezoid
rows_of band = trapezoid band.y0 band.y1 band.left band.right
