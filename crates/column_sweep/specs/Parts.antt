-- Edges for the tiles left of an upright line X = x, and edges for those right of it.
use Rattle.std.specs.Prelude.{ℤ, pos, ◌+ℤ◌, ◌≤ℤ◌, ◌<ℤ◌, ◌≡◌, Bool, not, Option, Some, None, if◌then◌else◌, int_lt, List, ◌++◌, All}
use Rattle.std.specs.Int.{int_min, int_max}
use Rattle.std.specs.Option.{option_to_list}
use Rattle.half_grid.specs.Edges.{EdgeParts, edge_parts, edges_winding, is_of}
use Rattle.half_grid.specs.Rows.{place}
use Rattle.half_grid.specs.declared.plane.Tile.{Tile}
use Rattle.half_grid.specs.declared.plane.Line.{Line}
use Rattle.half_grid.specs.declared.plane.Line.TheVariants.{Upright}
use Rattle.half_grid.specs.declared.border.Operand.{Operand}
use Rattle.scan_line.specs.Actives.{SpansRow}
use Rattle.column_sweep.specs.RowSums.{sum_among, row_sum}

-- in each of its rows the edge lies left of the line
abbrev pub LiesLeft : ℤ → EdgeParts → Type 0
LiesLeft x e = (j : ℤ) → SpansRow j e → place e.line j <ℤ (x +ℤ x)

-- or right of it, or on it
abbrev pub LiesRight : ℤ → EdgeParts → Type 0
LiesRight x e = (j : ℤ) → SpansRow j e → (x +ℤ x) ≤ℤ place e.line j

-- the part of an edge in the rows from one Y up to below another, where there are such rows
abbrev pub part_over : EdgeParts → ℤ → ℤ → Option EdgeParts
part_over e low high = if int_lt low high then Some (edge_parts low high e.line e.up e.operand) else None

-- its part below a Y, and its part above
abbrev pub part_below : ℤ → EdgeParts → Option EdgeParts
part_below y e = part_over e e.y0 (int_min e.y1 y)

abbrev pub part_above : ℤ → EdgeParts → Option EdgeParts
part_above y e = part_over e (int_max e.y0 y) e.y1

-- what each of two edges has besides the rows of the other
abbrev pub rests : EdgeParts → EdgeParts → List EdgeParts
rests e f = option_to_list
    (part_below f.y0 e) ++ (option_to_list
    (part_below e.y0 f) ++ (option_to_list (part_above f.y1 e) ++ option_to_list (part_above e.y1 f)))

-- the two lists have together what the edges have, in each row
abbrev pub AddUp : List EdgeParts → List EdgeParts → List EdgeParts → Type 0
AddUp own beyond edges = (o : Operand) (j : ℤ) (some : Line → Bool) → (sum_among o j some own +ℤ sum_among o j some beyond) ≡ sum_among o j some edges

-- the edges of a list split at the line
pub record AreSplit (x : ℤ) (edges own beyond : List EdgeParts) : Type 0 where
  pub add_up : AddUp own beyond edges
  pub left : All (LiesLeft x) own
  pub right : All (LiesRight x) beyond

-- On its own side of the line each list winds as the edges do, and on the other side it winds round no tile.
pub record AreParts (x : ℤ) (edges own beyond : List EdgeParts) : Type 0 where
  pub left : (o : Operand) (t : Tile) → t.i <ℤ x → edges_winding o own t ≡ edges_winding o edges t
  pub left_only : (o : Operand) (t : Tile) → x ≤ℤ t.i → edges_winding o own t ≡ pos 0
  pub right : (o : Operand) (t : Tile) → x ≤ℤ t.i → edges_winding o beyond t ≡ edges_winding o edges t
  pub right_only : (o : Operand) (t : Tile) → t.i <ℤ x → edges_winding o beyond t ≡ pos 0
  pub even : (o : Operand) (j : ℤ) → row_sum o j own ≡ pos 0
  pub sums : (o : Operand) (j : ℤ) → row_sum o j beyond ≡ row_sum o j edges

-- the same edge the other way
abbrev pub turned : EdgeParts → EdgeParts
turned e = edge_parts e.y0 e.y1 e.line (not e.up) e.operand

-- upright edges on the line that add up, for this operand, to this sum, and for the other to nothing
pub record AreSumsOf (x : ℤ) (p : Operand) (sum : ℤ → ℤ) (sums : List EdgeParts) : Type 0 where
  pub same : (o : Operand) (j : ℤ) → row_sum o j sums ≡ (if is_of o p then sum j else pos 0)
  pub on_line : All (λ e. e.line ≡ Upright x) sums

-- upright edges on the line that add up to what the edges do
pub record AreSums (x : ℤ) (edges sums : List EdgeParts) : Type 0 where
  pub same : (o : Operand) (j : ℤ) → row_sum o j sums ≡ row_sum o j edges
  pub on_line : All (λ e. e.line ≡ Upright x) sums
