-- Within reach: at most 2^44 half units from 0. Every vertex of a shape that the program makes is within reach.
use Rattle.std.specs.Prelude.{ℤ, pos, ◌≤ℤ◌, ◌^◌, neg_ℤ}
use Rattle.half_grid.specs.declared.plane.Point.{Point}
use Rattle.half_grid.specs.declared.plane.Tile.{Tile}

pub record IsWithinReach (z : ℤ) : Type 0 where
  pub low : neg_ℤ (pos (2 ^ 44)) ≤ℤ z
  pub high : z ≤ℤ pos (2 ^ 44)

pub record IsPointWithinReach (p : Point) : Type 0 where
  pub x : IsWithinReach p.x
  pub y : IsWithinReach p.y

pub record IsTileWithinReach (t : Tile) : Type 0 where
  pub column : IsWithinReach t.i
  pub row : IsWithinReach t.j
