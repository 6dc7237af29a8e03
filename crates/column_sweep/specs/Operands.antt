-- The edges of a list of trapezoids as an operand: at each tile of a window their winding is the number of trapezoids
-- that have the tile.
use Rattle.std.specs.Prelude.{pos, ◌≤ℤ◌, ◌<ℤ◌, ◌≡◌, Bool, ◌&&◌, List, int_lt}
use Rattle.std.specs.List.{flat_map, filter}
use Rattle.half_grid.specs.Edges.{EdgeParts, edges_of_trapezoid, edges_winding}
use Rattle.half_grid.specs.Trapezoids.{Trapezoid, count_in}
use Rattle.half_grid.specs.Windows.{RowRange}
use Rattle.half_grid.specs.declared.plane.Tile.{Tile}
use Rattle.half_grid.specs.declared.border.Operand.{Operand}

-- whether the trapezoid has a row of the window
abbrev pub meets : RowRange → Trapezoid → Bool
meets window z = int_lt z.y0 window.y1 && int_lt window.y0 z.y1

-- both edges of each trapezoid that has a row of the window
abbrev pub edges_meeting : Operand → RowRange → List Trapezoid → List EdgeParts
edges_meeting o window traps = flat_map (edges_of_trapezoid o) (filter (meets window) traps)

abbrev pub WindsByCount : Operand → List EdgeParts → List Trapezoid → RowRange → Type 0
WindsByCount o edges traps window = (t : Tile) → window.y0 ≤ℤ t.j → t.j <ℤ window.y1 → edges_winding o edges t ≡ pos (count_in traps t)
