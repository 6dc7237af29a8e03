-- How far from 0 the product of a coordinate with a small factor is.
use Rattle.std.specs.Prelude.{ℤ, pos, neg_ℤ, ◌≤ℤ◌, ◌^◌}

pub record IsProduct (z : ℤ) : Type 0 where
  pub low : neg_ℤ (pos (2 ^ 96)) ≤ℤ z
  pub high : z ≤ℤ pos (2 ^ 96)
