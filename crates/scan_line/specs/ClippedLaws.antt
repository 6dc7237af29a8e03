-- The parts of edges in a window wind as the edges do in its rows, and are balanced there where these are.
use Rattle.std.specs.Prelude.{◌≤ℤ◌, ◌<ℤ◌, ◌≡◌, List}
use Rattle.half_grid.specs.Edges.{EdgeParts, edges_winding}
use Rattle.half_grid.specs.Windows.{RowRange}
use Rattle.half_grid.specs.declared.plane.Tile.{Tile}
use Rattle.half_grid.specs.declared.border.Operand.{Operand}
use Rattle.scan_line.specs.ClippedEdges.{parts_in}
use Rattle.scan_line.specs.Runs.{IsBalanced}

abbrev pub WindsInWindow : Type 0
WindsInWindow = (o : Operand) (window : RowRange) (edges : List EdgeParts) (t : Tile) → window.y0 ≤ℤ t.j
    → t.j <ℤ window.y1 → edges_winding o (parts_in window edges) t ≡ edges_winding o edges t

abbrev pub StaysBalanced : Type 0
StaysBalanced = (window : RowRange) (edges : List EdgeParts) → IsBalanced edges window → IsBalanced (parts_in window edges) window
