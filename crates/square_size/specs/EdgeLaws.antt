-- The windings of the edges of rings, as laws over all lists.
use Rattle.std.specs.Prelude.{ℤ, pos, ◌≤ℤ◌, ◌≤◌, ◌≡◌, All, List, ◌&&◌, not, count_by, flat_map}
use Rattle.half_grid.specs.Edges.{edges_winding, is_of, spans}
use Rattle.half_grid.specs.Nearness.{IsGrown}
use Rattle.half_grid.specs.Trapezoids.{Trapezoid, IsLegal, count_in}
use Rattle.half_grid.specs.Winding.{winding}
use Rattle.half_grid.specs.declared.border.Operand.{Operand}
use Rattle.half_grid.specs.declared.border.Operand.TheVariants.{A}
use Rattle.half_grid.specs.declared.plane.Point.{Point}
use Rattle.half_grid.specs.declared.plane.Tile.{Tile}
use Rattle.square_size.specs.Edges.{edges_of_points, edges_of_grown}
use Rattle.square_size.specs.Ranges.{IsRectangle}

-- The edges of a point list have its winding at each tile.
abbrev pub EdgesHaveWinding : Type 0
EdgesHaveWinding = (o : Operand) (points : List Point) (t : Tile) → edges_winding o (edges_of_points o points) t ≡ winding points t

-- the tile is in some trapezoid of the list
abbrev pub IsInSome : List Trapezoid → Tile → Type 0
IsInSome traps t = 1 ≤ count_in traps t

-- The edges of the rings of grown trapezoids wind at least once round each tile that is near to some tile of the
-- trapezoids,
abbrev pub GrownWind : Type 0
GrownWind = (dx dy : ℤ) (traps : List Trapezoid) (t : Tile) → IsRectangle dx dy → All IsLegal traps
    → IsGrown dx dy (IsInSome traps) t → pos 1 ≤ℤ edges_winding A (flat_map (edges_of_grown dx dy) traps) t

-- and not round any other tile.
abbrev pub OthersDoNotWind : Type 0
OthersDoNotWind = (dx dy : ℤ) (traps : List Trapezoid) (t : Tile) → IsRectangle dx dy → All IsLegal traps
    → (IsGrown dx dy (IsInSome traps) t → ⊥) → edges_winding A (flat_map (edges_of_grown dx dy) traps) t ≡ pos 0

-- In each row as many of these edges of each operand go up as go down.
abbrev pub GrownAreBalanced : Type 0
GrownAreBalanced = (dx dy : ℤ) (traps : List Trapezoid) (o : Operand) (row : ℤ) → IsRectangle dx dy → All IsLegal traps
    → count_by (λ e. is_of o e.operand && (e.up && spans e row)) (flat_map (edges_of_grown dx dy) traps)
    ≡ count_by (λ e. is_of o e.operand && (not e.up && spans e row)) (flat_map (edges_of_grown dx dy) traps)
