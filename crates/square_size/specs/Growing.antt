-- A stream of the edges of grown trapezoids stands for the edges in hand, which are still to come of one ring, followed
-- by those of the rings of the trapezoids that its source stands for. Each ring is within reach.
use Rattle.std.specs.Prelude.{ℤ, ◌≡◌, ◌≤◌, All, List, ◌++◌, flat_map, length}
use Rattle.half_grid.specs.Edges.{EdgeParts}
use Rattle.half_grid.specs.Trapezoids.{Trapezoid}
use Rattle.square_size.specs.Edges.{edges_of_grown}
use Rattle.square_size.specs.Rings.{HasRingWithinReach, IsSizing}

pub record StandsForGrown {S : Type 0} (source_for : S → List Trapezoid → Type 0) (dx dy : ℤ) (source : S) (in_hand edges : List EdgeParts) : Type 0 where
  pub traps : List Trapezoid
  pub given : source_for source traps
  pub sizing : IsSizing dx dy
  pub within : All (HasRingWithinReach dx dy) traps
  pub few : length in_hand ≤ 4
  pub is : edges ≡ in_hand ++ flat_map (edges_of_grown dx dy) traps
