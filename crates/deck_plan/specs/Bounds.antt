-- How far from 0 tiles and trapezoids are.
use Rattle.std.specs.Prelude.{ℕ, ◌+◌, ◌*◌, ◌^◌, ℤ, ◌+ℤ◌, ◌-ℤ◌, ◌≤ℤ◌, ◌<ℤ◌}
use Rattle.half_grid.specs.Lines.{x_on}
use Rattle.half_grid.specs.Trapezoids.{Trapezoid}
use Rattle.half_grid.specs.declared.extent.Frame.{Frame}
use Rattle.half_grid.specs.declared.plane.Tile.{Tile}
use Rattle.cell_tree.specs.Boxes.{IsUpTo}

pub record IsTileUpTo (bound : ℕ) (t : Tile) : Type 0 where
  pub column : IsUpTo bound t.i
  pub row : IsUpTo bound t.j

pub record HasCornersUpTo (bound : ℕ) (z : Trapezoid) : Type 0 where
  pub y0 : IsUpTo bound z.y0
  pub y1 : IsUpTo bound z.y1
  pub bottom_left : IsUpTo bound (x_on z.left z.y0)
  pub bottom_right : IsUpTo bound (x_on z.right z.y0)
  pub top_left : IsUpTo bound (x_on z.left z.y1)
  pub top_right : IsUpTo bound (x_on z.right z.y1)

-- so far the tiles of definition n may be
abbrev pub bound_of : ℕ → ℕ
bound_of n = 2 ^ 30 + (n + 1) * 2 ^ 32

-- the box has the trapezoid
pub record IsAround (box : Frame) (z : Trapezoid) : Type 0 where
  pub bottom : box.y0 ≤ℤ z.y0
  pub top : z.y1 ≤ℤ box.y1
  pub bottom_left : box.x0 ≤ℤ x_on z.left z.y0
  pub top_left : box.x0 ≤ℤ x_on z.left z.y1
  pub bottom_right : x_on z.right z.y0 ≤ℤ box.x1
  pub top_right : x_on z.right z.y1 ≤ℤ box.x1

-- a box with columns and rows, so far from 0 at most
pub record IsFullBox (bound : ℕ) (box : Frame) : Type 0 where
  pub columns : box.x0 <ℤ box.x1
  pub rows : box.y0 <ℤ box.y1
  pub x0 : IsUpTo bound box.x0
  pub y0 : IsUpTo bound box.y0
  pub x1 : IsUpTo bound box.x1
  pub y1 : IsUpTo bound box.y1

-- the box with so much more on each side
abbrev pub wider : ℤ → ℤ → Frame → Frame
wider dx dy hull = record { x0 = hull.x0 -ℤ dx; y0 = hull.y0 -ℤ dy; x1 = hull.x1 +ℤ dx; y1 = hull.y1 +ℤ dy }
