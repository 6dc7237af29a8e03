-- The edges of a point list, and those of the rings of grown trapezoids.
--
-- Two consecutive points make an edge where they have different Y and lie on a line of the half grid. It goes up where
-- the second is the higher one.
use Rattle.std.specs.Prelude.{ℤ, true, false, List, ◌++◌, Option, Some, None, flat_map, int_lt, if◌then◌else◌}
use Rattle.std.specs.Option.{option_to_list}
use Rattle.half_grid.specs.Edges.{EdgeParts, edge_parts}
use Rattle.half_grid.specs.Lines.{line_of}
use Rattle.half_grid.specs.Trapezoids.{Trapezoid}
use Rattle.half_grid.specs.Winding.{edges_of}
use Rattle.half_grid.specs.declared.border.Operand.{Operand}
use Rattle.half_grid.specs.declared.border.Operand.TheVariants.{A}
use Rattle.half_grid.specs.declared.plane.Line.{Line}
use Rattle.half_grid.specs.declared.plane.Point.{Point}
use Rattle.square_size.specs.Rings.{grown_ring}

abbrev pub edge_along : Operand → Point → Point → Option Line → Option EdgeParts
edge_along o a b None = None
edge_along o a b (Some line) = if int_lt a.y b.y then Some (edge_parts a.y b.y line true o) else Some (edge_parts b.y a.y line false o)

-- the edge from a to b
abbrev pub edge_between : Operand → Point → Point → Option EdgeParts
edge_between o a b = edge_along o a b (line_of a b)

abbrev pub edge_of_pair : Operand → Point × Point → List EdgeParts
edge_of_pair o (a, b) = option_to_list (edge_between o a b)

-- the edges of a point list that aren't horizontal, in order
abbrev pub edges_of_points : Operand → List Point → List EdgeParts
edges_of_points o points = flat_map (edge_of_pair o) (edges_of points)

-- the edges of the ring of a grown trapezoid
abbrev pub edges_of_grown : ℤ → ℤ → Trapezoid → List EdgeParts
edges_of_grown dx dy z = edges_of_points A (grown_ring dx dy z)

-- up to four edges, in order
abbrev pub listed : Option EdgeParts → Option EdgeParts → Option EdgeParts → Option EdgeParts → List EdgeParts
listed first second third fourth = option_to_list first ++ (option_to_list second ++ (option_to_list third ++ option_to_list fourth))
