-- The lowest tile that a rule takes, leftmost in its row.
--
-- A tile comes no later than another where it stands in a lower row, or in the same row and no further right.
use Rattle.std.specs.Prelude.{ℤ, ◌≤ℤ◌, ◌<ℤ◌, ◌≡◌, ◌⊎◌, Bool, List, [], All, map, Option, Some, None}
use Rattle.std.specs.List.{Contains}
use Rattle.half_grid.specs.Edges.{EdgeParts, edges_winding}
use Rattle.half_grid.specs.Rows.{number_in_row, place}
use Rattle.half_grid.specs.Trapezoids.{Trapezoid}
use Rattle.half_grid.specs.Windows.{RowRange}
use Rattle.half_grid.specs.declared.border.Operand.TheVariants.{A, B}
use Rattle.half_grid.specs.declared.plane.Tile.{Tile}
use Rattle.trap_join.specs.Fronts.{ended_at}
use Rattle.trap_join.specs.Joins.{IsTakenIn}
use Rattle.active_lines.specs.declared.item.ActiveLine.{ActiveLine}
use Rattle.plane_sweep.specs.declared.lowest_tile.LowestTile.{LowestTile}
use Rattle.plane_sweep.specs.declared.lowest_tile.Spot.{Spot}
use Rattle.plane_sweep.specs.StopRuns.{growing_of}

abbrev pub ComesNoLater : Tile → Tile → Type 0
ComesNoLater t u = (t.j <ℤ u.j) ⊎ ((t.j ≡ u.j) × (number_in_row t ≤ℤ number_in_row u))

-- The rule takes the tile, these are its windings, and it comes no later than any tile of the window that the rule takes.
pub record IsLowest (post : ℤ → ℤ → Bool → Type 0) (edges : List EdgeParts) (window : RowRange) (found : LowestTile) : Type 0 where
  pub taken : IsTakenIn post edges window found.tile
  pub a : found.a ≡ edges_winding A edges found.tile
  pub b : found.b ≡ edges_winding B edges found.tile
  pub first : (t : Tile) → IsTakenIn post edges window t → ComesNoLater found.tile t

-- the rule takes no tile of the window
abbrev pub TakesNone : (ℤ → ℤ → Bool → Type 0) → List EdgeParts → RowRange → Type 0
TakesNone post edges window = (t : Tile) → IsTakenIn post edges window t → ⊥

-- ---- a tile by its row and its number there

pub record IsSpotOf (s : Spot) (t : Tile) : Type 0 where
  pub row : t.j ≡ s.row
  pub number : number_in_row t ≡ s.number

-- the leftmost tile of a trapezoid's lowest row
abbrev pub first_spot : Trapezoid → Spot
first_spot z = record { row = z.y0; number = place z.left z.y0 }

abbrev pub IsNoLater : Spot → Spot → Type 0
IsNoLater s r = (s.row <ℤ r.row) ⊎ ((s.row ≡ r.row) × (s.number ≤ℤ r.number))

-- it is that of one of the trapezoids, and none of theirs comes before it
pub record IsFirstOf (traps : List Trapezoid) (s : Spot) : Type 0 where
  pub z : Trapezoid
  pub has : Contains traps z
  pub is : s ≡ first_spot z
  pub first : All (λ y. IsNoLater s (first_spot y)) traps

abbrev pub IsFirstOfAll : List Trapezoid → Option Spot → Type 0
IsFirstOfAll traps None = traps ≡ []
IsFirstOfAll traps (Some s) = IsFirstOf traps s

-- the trapezoids that are open at the lines, as if they ended at this Y
abbrev pub open_up_to : ℤ → List ActiveLine → List Trapezoid
open_up_to top lines = map (ended_at top) (growing_of lines)

-- the tile there is in the area, and none of the area comes before it
pub record IsFirstIn (area : Tile → Type 0) (s : Spot) : Type 0 where
  pub has : (t : Tile) → IsSpotOf s t → area t
  pub first : (t : Tile) → area t → (s.row <ℤ t.j) ⊎ ((s.row ≡ t.j) × (s.number ≤ℤ number_in_row t))

abbrev pub IsSpotIn : (Tile → Type 0) → Option Spot → Type 0
IsSpotIn area None = (t : Tile) → area t → ⊥
IsSpotIn area (Some s) = IsFirstIn area s
