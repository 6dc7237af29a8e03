-- The parts of edges in the rows of a window: each edge that spans some of them, over those that it spans.
use Rattle.std.specs.Prelude.{List, Option, Some, None, if◌then◌else◌, int_lt}
use Rattle.std.specs.Int.{int_min, int_max}
use Rattle.std.specs.List.{filter_map}
use Rattle.half_grid.specs.Edges.{EdgeParts, edge_parts}
use Rattle.half_grid.specs.Windows.{RowRange}

-- the edge's part, where it has one
abbrev pub part_in : RowRange → EdgeParts → Option EdgeParts
part_in window e =
    if int_lt (int_max e.y0 window.y0) (int_min e.y1 window.y1)
    then Some (edge_parts (int_max e.y0 window.y0) (int_min e.y1 window.y1) e.line e.up e.operand)
    else None

abbrev pub parts_in : RowRange → List EdgeParts → List EdgeParts
parts_in window edges = filter_map (part_in window) edges
