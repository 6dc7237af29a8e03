-- Edges that aren't horizontal, and the winding of a list of them at a tile.
--
-- An edge spans the rows from y0 up to below y1, on one line, upward or downward, and belongs to one operand of a
-- set operation. The winding counts the operand's edges that span the tile's row and have the tile on their
-- right: each that goes up counts 1, each that goes down counts -1.
use Rattle.std.specs.Prelude.{ℤ, pos, ◌-ℤ◌, ◌<ℤ◌, Bool, true, false, ◌&&◌, not, List, [], ◌∷◌, count_by, int_le, int_lt}
use Rattle.half_grid.specs.Reach.{IsWithinReach}
use Rattle.half_grid.specs.Lines.{strip_along, first_strip, x_on}
use Rattle.half_grid.specs.Trapezoids.{Trapezoid}
use Rattle.half_grid.specs.declared.plane.Tile.{Tile}
use Rattle.half_grid.specs.declared.plane.Line.{Line}
use Rattle.half_grid.specs.declared.border.Operand.{Operand}
use Rattle.half_grid.specs.declared.border.Operand.TheVariants.{A, B}

-- the parts of an edge
pub record EdgeParts : Type 0 where
  pub y0 : ℤ
  pub y1 : ℤ
  pub line : Line
  pub up : Bool
  pub operand : Operand

abbrev pub edge_parts : ℤ → ℤ → Line → Bool → Operand → EdgeParts
edge_parts y0 y1 line up operand = record { y0 = y0; y1 = y1; line = line; up = up; operand = operand }

-- an edge has rows, and both its ends are within reach
pub record IsEdge (e : EdgeParts) : Type 0 where
  pub has_rows : e.y0 <ℤ e.y1
  pub y0 : IsWithinReach e.y0
  pub y1 : IsWithinReach e.y1
  pub lower_end : IsWithinReach (x_on e.line e.y0)
  pub upper_end : IsWithinReach (x_on e.line e.y1)

-- whether the edge spans the row
abbrev pub spans : EdgeParts → ℤ → Bool
spans e row = int_le e.y0 row && int_lt row e.y1

-- whether the edge spans the tile's row and has the tile on its right
abbrev pub has_on_right : EdgeParts → Tile → Bool
has_on_right e t = spans e t.j && int_le (first_strip e.line) (strip_along e.line t)

abbrev pub is_of : Operand → Operand → Bool
is_of A A = true
is_of A B = false
is_of B A = false
is_of B B = true

-- an edge of the operand that goes up with the tile on its right
abbrev pub winds_up : Operand → Tile → EdgeParts → Bool
winds_up o t e = is_of o e.operand && (e.up && has_on_right e t)

-- an edge of the operand that goes down with the tile on its right
abbrev pub winds_down : Operand → Tile → EdgeParts → Bool
winds_down o t e = is_of o e.operand && (not e.up && has_on_right e t)

-- the winding of the operand's edges at the tile
unfoldable pub edges_winding : Operand → List EdgeParts → Tile → ℤ
edges_winding o edges t = pos (count_by (winds_up o t) edges) -ℤ pos (count_by (winds_down o t) edges)

-- the edge along the left line of a trapezoid, which goes up
abbrev pub left_edge : Trapezoid → Operand → EdgeParts
left_edge z o = edge_parts z.y0 z.y1 z.left true o

-- the edge along its right line, which goes down
abbrev pub right_edge : Trapezoid → Operand → EdgeParts
right_edge z o = edge_parts z.y0 z.y1 z.right false o

-- both
abbrev pub edges_of_trapezoid : Operand → Trapezoid → List EdgeParts
edges_of_trapezoid o z = left_edge z o ∷ right_edge z o ∷ []
