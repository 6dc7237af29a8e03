-- The windings along a row, edge by edge from left to right.
use Rattle.std.specs.Prelude.{ℤ, pos, neg_ℤ, ◌≡◌, ◌+ℤ◌, ◌<ℤ◌, ◌^◌, ◌&&◌, not, if◌then◌else◌, List, [], ◌∷◌, count_by}
use Rattle.std.specs.List.{Contains}
use Rattle.half_grid.specs.Edges.{EdgeParts, is_of}
use Rattle.half_grid.specs.declared.plane.Line.{Line}
use Rattle.half_grid.specs.declared.border.Operand.{Operand}
use Rattle.half_grid.specs.declared.border.Operand.TheVariants.{A, B}
use Rattle.scan_line.specs.declared.runs.Run.{Run}
use Rattle.scan_line.specs.declared.sums.Windings.{Windings}

-- one less and one more than the winding are whole numbers of 64 bits
pub record HasNext (w : ℤ) : Type 0 where
  pub below : neg_ℤ (pos (2 ^ 63)) <ℤ w
  pub above : (w +ℤ pos 1) <ℤ pos (2 ^ 63)

-- what an edge adds to an operand's winding at the tiles on its right
abbrev pub adds : Operand → EdgeParts → ℤ
adds o e = if is_of o e.operand then (if e.up then pos 1 else neg_ℤ (pos 1)) else pos 0

abbrev pub winding_of : Operand → Windings → ℤ
winding_of A w = w.a
winding_of B w = w.b

-- as many edges of the operand go up as go down
abbrev pub IsEven : List EdgeParts → Operand → Type 0
IsEven edges o = count_by (λ e. is_of o e.operand && e.up) edges ≡ count_by (λ e. is_of o e.operand && not e.up) edges

-- the first of the edges lies on the line
abbrev pub BeginsOn : Line → List EdgeParts → Type 0
BeginsOn line [] = ⊥
BeginsOn line (e ∷ edges) = e.line ≡ line

-- some edge lies on the line
pub record IsLineOf (edges : List EdgeParts) (line : Line) : Type 0 where
  pub edge : EdgeParts
  pub has : Contains edges edge
  pub is : edge.line ≡ line

-- both lines of the run are those of edges
pub record HasLinesOf (edges : List EdgeParts) (run : Run) : Type 0 where
  pub left : IsLineOf edges run.left
  pub right : IsLineOf edges run.right
