-- The limits of shots: a greatest height of at least one row, and a greatest width of at least twice that height.
use Rattle.std.specs.Prelude.{ℤ, pos, ◌≤ℤ◌}
use Rattle.half_grid.specs.Halves.{twice}

pub record AreLimits (height width : ℤ) : Type 0 where
  pub some_rows : pos 1 ≤ℤ height
  pub wide : twice height ≤ℤ width
