-- The runs of a row: the maximal intervals of tiles that the rule takes.
--
-- The tiles of a row have numbers that count up from left to right, and a line has a place among them. A run goes from
-- its left line's place up to below its right line's. The runs of a row have exactly the tiles whose two windings the
-- rule takes, stand from left to right, and between two of them there is a tile that isn't taken. So each is as long as
-- can be.
use Rattle.std.specs.Prelude.{ℤ, ◌≤ℤ◌, ◌<ℤ◌, ◌≡◌, ◌↔◌, Bool, ◌&&◌, not, List, [], ◌∷◌, All, Any, count_by}
use Rattle.half_grid.specs.Edges.{EdgeParts, edges_winding, spans, is_of}
use Rattle.half_grid.specs.Rows.{number_in_row, place}
use Rattle.half_grid.specs.Trapezoids.{trapezoid, IsShot}
use Rattle.half_grid.specs.Windows.{RowRange}
use Rattle.half_grid.specs.declared.plane.Tile.{Tile}
use Rattle.half_grid.specs.declared.border.Operand.{Operand}
use Rattle.half_grid.specs.declared.border.Operand.TheVariants.{A, B}
use Rattle.scan_line.specs.Rules.{Takes}
use Rattle.scan_line.specs.declared.runs.Run.{Run}

-- in the row there are as many edges of the operand that go up as edges that go down
abbrev pub IsBalancedAt : List EdgeParts → Operand → ℤ → Type 0
IsBalancedAt edges o j = count_by (λ e. is_of o e.operand && (e.up && spans e j)) edges
    ≡ count_by (λ e. is_of o e.operand && (not e.up && spans e j)) edges

-- each operand, in each row of the window
abbrev pub IsBalanced : List EdgeParts → RowRange → Type 0
IsBalanced edges window = (o : Operand) (j : ℤ) → window.y0 ≤ℤ j → j <ℤ window.y1 → IsBalancedAt edges o j

-- the rule takes the tile's two windings
abbrev pub IsTaken : (ℤ → ℤ → Bool → Type 0) → List EdgeParts → Tile → Type 0
IsTaken post edges t = Takes post (edges_winding A edges t) (edges_winding B edges t)

-- the run has the tile in the tile's row
pub record RunHas (t : Tile) (run : Run) : Type 0 where
  pub from_left : place run.left t.j ≤ℤ number_in_row t
  pub below_right : number_in_row t <ℤ place run.right t.j

-- each run has a tile in the row, and between it and the next there is a tile that is in neither
abbrev pub StandApart : ℤ → List Run → Type 0
StandApart j [] = Unit {0}
StandApart j (run ∷ runs) = (place run.left j <ℤ place run.right j) × All (λ next. place run.right j <ℤ place next.left j) runs × StandApart j runs

-- the windings that the run holds are those of its leftmost tile in the row
abbrev pub HoldsWindings : List EdgeParts → ℤ → Run → Type 0
HoldsWindings edges j run = (t : Tile) → t.j ≡ j → number_in_row t ≡ place run.left j
    → (run.a ≡ edges_winding A edges t) × (run.b ≡ edges_winding B edges t)

-- the runs of the row
pub record AreRuns (post : ℤ → ℤ → Bool → Type 0) (edges : List EdgeParts) (j : ℤ) (runs : List Run) : Type 0 where
  pub apart : StandApart j runs
  pub taken : (t : Tile) → t.j ≡ j → IsTaken post edges t ↔ Any (RunHas t) runs
  pub windings : All (HoldsWindings edges j) runs

-- the runs of a slab: in each of its rows they are the row's runs, and each is a trapezoid of the slab's height
pub record AreRunsOfSlab (post : ℤ → ℤ → Bool → Type 0) (edges : List EdgeParts) (slab : RowRange) (runs : List Run) : Type 0 where
  pub rows : (j : ℤ) → slab.y0 ≤ℤ j → j <ℤ slab.y1 → AreRuns post edges j runs
  pub shots : All (λ run. IsShot (trapezoid slab.y0 slab.y1 run.left run.right)) runs
