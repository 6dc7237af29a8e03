-- Numbers of trapezoids as windings.
use Rattle.std.specs.Prelude.{ℤ, pos, ◌≤ℤ◌, ◌<ℤ◌, ◌≡◌, ◌^◌, List}
use Rattle.half_grid.specs.Trapezoids.{Trapezoid, count_in}
use Rattle.half_grid.specs.Windows.{RowRange}
use Rattle.plane_sweep.specs.declared.lowest_tile.LowestTile.{LowestTile}
use Rattle.shot_checker.specs.Verdicts.{IsLowestMiscovered}

-- a list has fewer than 2^64 items
pub record IsCount (n : ℤ) : Type 0 where
  pub low : pos 0 ≤ℤ n
  pub high : n <ℤ pos (2 ^ 64)

-- the lowest miscovered tile, with its number of shots and its number of trapezoids of the area
pub record HasCounts (shots area : List Trapezoid) (window : RowRange) (found : LowestTile) : Type 0 where
  pub tile : IsLowestMiscovered shots area window found.tile
  pub count : found.a ≡ pos (count_in shots found.tile)
  pub wanted : found.b ≡ pos (count_in area found.tile)
