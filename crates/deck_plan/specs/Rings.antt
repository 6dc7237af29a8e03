-- The edges of quadrilaterals.
use Rattle.std.specs.Prelude.{List, All}
use Rattle.std.specs.List.{Any}
use Rattle.half_grid.specs.Edges.{EdgeParts}
use Rattle.half_grid.specs.Outlines.{HasGridEdges}
use Rattle.half_grid.specs.Quads.{Corners, IsQuad, ring_of}
use Rattle.half_grid.specs.Winding.{IsInPolygon}
use Rattle.half_grid.specs.declared.plane.Tile.{Tile}
use Rattle.half_grid.specs.declared.border.Operand.{Operand}
use Rattle.scan_line.specs.OutlineEdges.{edges_along}

-- quadrilaterals whose corners are on the grid
abbrev pub AreQuads : List Corners → Type 0
AreQuads quads = All IsQuad quads × All (λ q. HasGridEdges (ring_of q)) quads

-- some quadrilateral has the tile
abbrev pub IsInSomeQuad : List Corners → Tile → Type 0
IsInSomeQuad quads t = Any (λ q. IsInPolygon (ring_of q) t) quads

-- the edges of the closed point list, as an operand
abbrev pub edges_of_quad : Operand → Corners → List EdgeParts
edges_of_quad o q = edges_along o (ring_of q)
