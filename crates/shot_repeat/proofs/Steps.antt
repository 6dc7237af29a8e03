-- Steps from shot to shot.
use Rattle.std.proofs.Common.{◌≡◌, ℤ, refl}
use Rattle.half_grid.specs.declared.plane.Point.{Point}

point : ℤ → ℤ → Point
point x y = record { x = x; y = y }

point_by : (a b c d : ℤ) → a ≡ c → b ≡ d → point a b ≡ point c d
point_by a b c d p q = rw (p, q) refl

pub same_point : (p q : Point) → p.x ≡ q.x → p.y ≡ q.y → p ≡ q
unfolding point
same_point p q a b = point_by p.x p.y q.x q.y a b
