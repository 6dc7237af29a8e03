-- The first edge of a point list that isn't on the grid: the edge of that number, counted from 0, isn't on the grid,
-- and all edges before it are.
use Rattle.std.specs.Prelude.{ℕ, ◌<◌, List, length, slice_index_or}
use Rattle.std.specs.List.{AllWithin}
use Rattle.half_grid.specs.declared.plane.Point.{Point}
use Rattle.half_grid.specs.Outlines.{IsOnGrid}
use Rattle.half_grid.specs.Winding.{edges_of}

pub record IsFirstSlant (points : List Point) (number : ℕ) : Type 0 where
  pub inside : number < length (edges_of points)
  pub on_grid : AllWithin IsOnGrid (edges_of points) 0 number
  pub slanted : (other : Point × Point) → IsOnGrid (slice_index_or (edges_of points) number other) → ⊥
