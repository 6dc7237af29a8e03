-- Steps of arrays.
use Rattle.std.specs.Prelude.{◌≡◌, ◌≤◌, ◌^◌, ◌*◌, ℕ, ℤ, pos, neg_ℤ, ◌*ℤ◌, ◌≤ℤ◌}
use Rattle.half_grid.specs.Halves.{twice}
use Rattle.half_grid.specs.declared.plane.Point.{Point}
use Rattle.gds_reader.specs.Values.{IsStep, IsWholeUnits}

-- at most 2^33 from 0
pub record IsNearPlace (z : ℤ) : Type 0 where
  pub low : neg_ℤ (pos (2 ^ 33)) ≤ℤ z
  pub high : z ≤ℤ pos (2 ^ 33)

-- so many of these are the length, and each is two of a number
pub record IsEvenPart (count length size : ℕ) : Type 0 where
  pub sum : count * size ≡ length
  pub half : ℕ
  pub even : size ≡ 2 * half

-- so many of these are the way, and each is two of a whole number
pub record IsPartOf (count : ℕ) (way step : ℤ) : Type 0 where
  pub sum : pos count *ℤ step ≡ way
  pub half : ℤ
  pub whole : step ≡ twice half

-- so many of these steps lead from one point to another
pub record IsStepping (count : ℕ) (from to step : Point) : Type 0 where
  pub some : 1 ≤ count
  pub step_is : IsStep count from to step
  pub whole : IsWholeUnits step
