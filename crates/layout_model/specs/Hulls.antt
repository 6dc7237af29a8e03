-- The least box of some points: it has them all, and one of them on each of its four sides.
use Rattle.std.specs.Prelude.{◌≤ℤ◌, ◌≡◌, List, All, Any}
use Rattle.half_grid.specs.declared.plane.Point.{Point}
use Rattle.half_grid.specs.declared.extent.Frame.{Frame}

-- the point is in the box, its sides included
pub record IsInBox (box : Frame) (p : Point) : Type 0 where
  pub left : box.x0 ≤ℤ p.x
  pub bottom : box.y0 ≤ℤ p.y
  pub right : p.x ≤ℤ box.x1
  pub top : p.y ≤ℤ box.y1

pub record IsLeastBoxOf (points : List Point) (box : Frame) : Type 0 where
  pub around : All (IsInBox box) points
  pub left : Any (λ p. p.x ≡ box.x0) points
  pub bottom : Any (λ p. p.y ≡ box.y0) points
  pub right : Any (λ p. p.x ≡ box.x1) points
  pub top : Any (λ p. p.y ≡ box.y1) points
