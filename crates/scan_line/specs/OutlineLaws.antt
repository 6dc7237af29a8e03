-- The edges of a point list wind as the list does, and those of a closed one on the grid are balanced.
use Rattle.std.specs.Prelude.{ℤ, pos, ◌≡◌, ◌≢◌, List}
use Rattle.half_grid.specs.Edges.{edges_winding}
use Rattle.half_grid.specs.Outlines.{IsClosed, HasGridEdges}
use Rattle.half_grid.specs.Winding.{winding}
use Rattle.half_grid.specs.declared.plane.Point.{Point}
use Rattle.half_grid.specs.declared.plane.Tile.{Tile}
use Rattle.half_grid.specs.declared.border.Operand.{Operand}
use Rattle.scan_line.specs.OutlineEdges.{edges_along}
use Rattle.scan_line.specs.Runs.{IsBalancedAt}

-- The edges' winding is the point list's, for the operand that they belong to,
abbrev pub WindsAsOutline : Type 0
WindsAsOutline = (o : Operand) (points : List Point) (t : Tile) → edges_winding o (edges_along o points) t ≡ winding points t

-- and 0 for the other.
abbrev pub WindsNotForOther : Type 0
WindsNotForOther = (o p : Operand) (points : List Point) (t : Tile) → o ≢ p → edges_winding o (edges_along p points) t ≡ pos 0

-- In each row as many edges of a closed list on the grid go up as down.
abbrev pub OutlineIsBalanced : Type 0
OutlineIsBalanced = (o p : Operand) (points : List Point) (j : ℤ) → IsClosed points → HasGridEdges points → IsBalancedAt (edges_along p points) o j
