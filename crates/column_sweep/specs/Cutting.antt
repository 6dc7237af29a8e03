-- Edges cut to the rows of a window.
use Rattle.std.specs.Prelude.{Option, Some, None}
use Rattle.std.specs.Int.{int_min, int_max}
use Rattle.half_grid.specs.Edges.{EdgeParts}
use Rattle.half_grid.specs.Windows.{RowRange}
use Rattle.column_sweep.specs.Parts.{part_over}

abbrev pub or_whole : EdgeParts → Option EdgeParts → EdgeParts
or_whole e (Some part) = part
or_whole e None = e

-- the edge's part in the rows of the window, or the edge as it is where it has none
abbrev pub in_rows_of : RowRange → EdgeParts → EdgeParts
in_rows_of window e = or_whole e (part_over e (int_max e.y0 window.y0) (int_min e.y1 window.y1))
