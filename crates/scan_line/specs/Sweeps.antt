-- What a sweep keeps from slab to slab.
use Rattle.std.specs.Prelude.{ℕ, ℤ, ◌≡◌, ◌≤◌, ◌≤ℤ◌, List, [], ◌∷◌, ◌++◌, All, IsPermutation, length, drop}
use Rattle.std.specs.List.{Contains}
use Rattle.half_grid.specs.Edges.{EdgeParts, IsEdge}
use Rattle.half_grid.specs.Windows.{RowRange}
use Rattle.scan_line.specs.Stops.{IsStop}

-- A sweep is seen as its edges, its window, the stop at which its next slab begins, the edges of the slab that it
-- stands at, and how many edges it has gone over.
pub record SweepState : Type 0 where
  pub edges : List EdgeParts
  pub window : RowRange
  pub y : ℤ
  pub active : List EdgeParts
  pub walked : ℕ

-- no edge begins below those before it
abbrev pub StartsAscend : List EdgeParts → Type 0
StartsAscend [] = Unit {0}
StartsAscend (e ∷ edges) = All (λ f. e.y0 ≤ℤ f.y0) edges × StartsAscend edges

-- the edges of a list are still there, apart from some that end at the Y or below
pub record Keeps (y : ℤ) (before now : List EdgeParts) : Type 0 where
  pub gone : List EdgeParts
  pub whole : IsPermutation (gone ++ now) before
  pub ended : All (λ e. e.y1 ≤ℤ y) gone

-- the list ends so
pub record EndsWith (edges rest : List EdgeParts) : Type 0 where
  pub front : List EdgeParts
  pub whole : edges ≡ front ++ rest

-- some edge begins at the Y
pub record SomeStartsAt (edges : List EdgeParts) (y : ℤ) : Type 0 where
  pub e : EdgeParts
  pub has : Contains edges e
  pub start : e.y0 ≡ y

-- The sweep stands at a stop. The edges of the last slab and those that begin at the stop or above it are all but some
-- that ended, and there is room for all.
pub record IsSweep (edges : List EdgeParts) (window : RowRange) (y : ℤ) (begun : ℕ) (active : List EdgeParts) (room spare : ℕ) : Type 0 where
  pub are_edges : All IsEdge edges
  pub stop : IsStop edges window y
  pub above_bottom : window.y0 ≤ℤ y
  pub below_top : y ≤ℤ window.y1
  pub begun_in : begun ≤ length edges
  pub ascend : StartsAscend (drop begun edges)
  pub keeps : Keeps y edges (active ++ drop begun edges)
  pub begin_below : All (λ e. e.y0 ≤ℤ y) active
  pub fits : length edges ≤ room
  pub fits_spare : length edges ≤ spare
