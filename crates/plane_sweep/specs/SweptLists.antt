-- What a sweep of edges in a window gives: the one joined list of trapezoids that has each tile of the window's rows
-- that the rule takes, and no other tile.
use Rattle.std.specs.Prelude.{ℤ, Bool, List}
use Rattle.half_grid.specs.Edges.{EdgeParts}
use Rattle.half_grid.specs.JoinedLists.{IsJoined}
use Rattle.half_grid.specs.Trapezoids.{Trapezoid, CoversExactly}
use Rattle.half_grid.specs.Windows.{RowRange}
use Rattle.trap_join.specs.Joins.{IsTakenIn}

pub record IsSwept (post : ℤ → ℤ → Bool → Type 0) (edges : List EdgeParts) (window : RowRange) (traps : List Trapezoid) : Type 0 where
  pub joined : IsJoined window traps
  pub covers : CoversExactly traps (IsTakenIn post edges window)
