-- The edges of a point list: each point with the next, where they don't have the same Y, on the line through both. It
-- goes up where the second point is higher.
use Rattle.std.specs.Prelude.{◌^◌, ◌<◌, All, length, List, [], ◌∷◌, Option, Some, None, true, false, if◌then◌else◌, int_lt}
use Rattle.std.specs.List.{filter_map}
use Rattle.half_grid.specs.Edges.{EdgeParts, edge_parts}
use Rattle.half_grid.specs.Lines.{line_of}
use Rattle.half_grid.specs.Reach.{IsPointWithinReach}
use Rattle.half_grid.specs.Winding.{edges_of}
use Rattle.half_grid.specs.declared.plane.Line.{Line}
use Rattle.half_grid.specs.declared.plane.Point.{Point}
use Rattle.half_grid.specs.declared.border.Operand.{Operand}

-- the edge along the line from the one point to the other
abbrev pub edge_from : Operand → Point → Point → Line → EdgeParts
edge_from o a b line = if int_lt a.y b.y then edge_parts a.y b.y line true o else edge_parts b.y a.y line false o

-- the edge from a point to the next, where a line of the half grid that isn't horizontal passes through both
abbrev pub edge_on : Operand → Point → Point → Option Line → Option EdgeParts
edge_on o a b None = None
edge_on o a b (Some line) = Some (edge_from o a b line)

abbrev pub edge_between : Operand → Point × Point → Option EdgeParts
edge_between o (a, b) = edge_on o a b (line_of a b)

abbrev pub edges_along : Operand → List Point → List EdgeParts
edges_along o points = filter_map (edge_between o) (edges_of points)

-- the edge from a point to the first of a list
abbrev pub first_edge : Operand → Point → List Point → Option EdgeParts
first_edge o a [] = None
first_edge o a (b ∷ points) = edge_between o (a, b)

-- points within reach, as many as a slice may have
pub record AreNear (points : List Point) : Type 0 where
  pub reach : All IsPointWithinReach points
  pub few : length points < 2 ^ 64
