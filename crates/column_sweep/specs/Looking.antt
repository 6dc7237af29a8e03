-- The lowest tile that a rule takes, looked for in one column after another.
--
-- Once a tile was found, a column further right is looked at in the rows below that tile alone.
use Rattle.std.specs.Prelude.{ℤ, pos, ◌≤ℤ◌, ◌<ℤ◌, ◌≡◌, Bool, int_lt, List, Option, Some, None}
use Rattle.half_grid.specs.Edges.{EdgeParts, edges_winding}
use Rattle.half_grid.specs.Windows.{RowRange, row_range}
use Rattle.half_grid.specs.declared.border.Operand.{Operand}
use Rattle.half_grid.specs.declared.border.Operand.TheVariants.{A, B}
use Rattle.half_grid.specs.declared.plane.Line.{Line}
use Rattle.half_grid.specs.declared.plane.Tile.{Tile}
use Rattle.trap_join.specs.Joins.{IsTakenIn}
use Rattle.plane_sweep.specs.Lowest.{ComesNoLater, IsLowest, TakesNone}
use Rattle.column_sweep.specs.RowSums.{sum_among, row_sum}
use Rattle.plane_sweep.specs.declared.lowest_tile.LowestTile.{LowestTile}

-- the rows of the window below the tile that was found, and all of them where none was
abbrev pub rows_below : RowRange → Option LowestTile → RowRange
rows_below window None = window
rows_below window (Some found) = row_range window.y0 found.tile.j

-- whether an edge begins below the top of the rows
abbrev pub begins_below : RowRange → EdgeParts → Bool
begins_below rows e = int_lt e.y0 rows.y1

-- the first if it is there, else the other one
abbrev pub first_of : Option LowestTile → Option LowestTile → Option LowestTile
first_of None before = before
first_of (Some lowest) before = Some lowest

-- in each of the rows some edges have what all have
abbrev pub AddUpIn : RowRange → List EdgeParts → List EdgeParts → Type 0
AddUpIn rows some edges = (o : Operand) (j : ℤ) (lines : Line → Bool) → j <ℤ rows.y1 → sum_among o j lines some ≡ sum_among o j lines edges

-- In the rows these edges wind as all do right of the line, or on it, and left of it they wind round nothing. In each of
-- the rows as many go up as down.
pub record AreLeftIn (rows : RowRange) (x : ℤ) (edges rest : List EdgeParts) : Type 0 where
  pub same : (o : Operand) (t : Tile) → rows.y0 ≤ℤ t.j → t.j <ℤ rows.y1 → x ≤ℤ t.i → edges_winding o rest t ≡ edges_winding o edges t
  pub nothing : (o : Operand) (t : Tile) → rows.y0 ≤ℤ t.j → t.j <ℤ rows.y1 → t.i <ℤ x → edges_winding o rest t ≡ pos 0
  pub even : (o : Operand) (j : ℤ) → rows.y0 ≤ℤ j → j <ℤ rows.y1 → row_sum o j rest ≡ pos 0

-- the lowest tile that the rule takes left of the line, leftmost in its row, with its windings
pub record IsLowestLeftOf (post : ℤ → ℤ → Bool → Type 0) (edges : List EdgeParts) (window : RowRange) (x : ℤ) (found : LowestTile) : Type 0 where
  pub taken : IsTakenIn post edges window found.tile
  pub left : found.tile.i <ℤ x
  pub a : found.a ≡ edges_winding A edges found.tile
  pub b : found.b ≡ edges_winding B edges found.tile
  pub first : (t : Tile) → t.i <ℤ x → IsTakenIn post edges window t → ComesNoLater found.tile t

-- the same, or none where the rule takes no tile there
abbrev pub IsFoundLeftOf : (ℤ → ℤ → Bool → Type 0) → List EdgeParts → RowRange → ℤ → Option LowestTile → Type 0
IsFoundLeftOf post edges window x None = (t : Tile) → t.i <ℤ x → IsTakenIn post edges window t → ⊥
IsFoundLeftOf post edges window x (Some found) = IsLowestLeftOf post edges window x found

-- what is left of the line is known, and these edges are left
pub record IsLookedTo (post : ℤ → ℤ → Bool → Type 0) (edges : List EdgeParts) (window : RowRange) (x : ℤ)
    (rest : List EdgeParts) (found : Option LowestTile) : Type 0 where
  pub left : AreLeftIn (rows_below window found) x edges rest
  pub known : IsFoundLeftOf post edges window x found

-- the lowest tile that the rule takes, or none where it takes none
abbrev pub IsFirstTaken : (ℤ → ℤ → Bool → Type 0) → List EdgeParts → RowRange → Option LowestTile → Type 0
IsFirstTaken post edges window None = TakesNone post edges window
IsFirstTaken post edges window (Some found) = IsLowest post edges window found
