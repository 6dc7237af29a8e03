-- A row of windows with its counts, and what is added to it.
use Rattle.std.specs.Prelude.{ℤ, pos, ◌≡◌, ◌+◌, ◌<◌, ◌≤◌, ◌^◌, ◌+ℤ◌, ◌-ℤ◌, ◌*ℤ◌, ◌≤ℤ◌, ◌<ℤ◌, List, [], ◌∷◌, ◌++◌}
use Rattle.std.specs.Int.{int_min, int_max}
use Rattle.half_grid.specs.Lines.{x_on}
use Rattle.half_grid.specs.Trapezoids.{Trapezoid, count_in}
use Rattle.half_grid.specs.declared.plane.Tile.{Tile}
use Rattle.density_map.specs.declared.counts.Counted.{Counted}
use Rattle.density_map.specs.Frames.{count_in_frame}
use Rattle.density_map.specs.Windows.{IsWindowSize, IsRowWithinReach, window, window_sum}
use Rattle.density_map.specs.Counts.{AreCounts, count_at}

-- the windows' size, the number of their row, and the counts
pub record RowMap : Type 0 where
  pub size : ℤ
  pub row : ℤ
  pub counts : List Counted

abbrev pub row_map : ℤ → ℤ → List Counted → RowMap
row_map size row counts = record { size = size; row = row; counts = counts }

-- the row of windows is one that counts may be of
pub record IsRowMap (m : RowMap) : Type 0 where
  pub size : IsWindowSize m.size
  pub reach : IsRowWithinReach m.size m.row
  pub counts : AreCounts m.counts

-- its least and its greatest X
abbrev pub least_x : Trapezoid → ℤ
least_x z = int_min (x_on z.left z.y0) (x_on z.left z.y1)

abbrev pub greatest_x : Trapezoid → ℤ
greatest_x z = int_max (x_on z.right z.y0) (x_on z.right z.y1)

-- the columns of windows from the first up to below the end are those that have its box
pub record AreColumnsOf (size : ℤ) (z : Trapezoid) (first end : ℤ) : Type 0 where
  pub from : (first *ℤ size) ≤ℤ least_x z
  pub not_before : least_x z <ℤ ((first +ℤ pos 1) *ℤ size)
  pub up_to : greatest_x z ≤ℤ (end *ℤ size)
  pub not_after : ((end -ℤ pos 1) *ℤ size) <ℤ greatest_x z

-- there is room for its tiles in the window of a column, and in each
abbrev pub HasRoom : ℤ → ℤ → ℤ → List Counted → Trapezoid → Type 0
HasRoom size row i counts z = count_at i counts + count_in_frame (window size i row) z < 2 ^ 128

abbrev pub HaveRoom : ℤ → ℤ → List Counted → Trapezoid → Type 0
HaveRoom size row counts z = (i : ℤ) → HasRoom size row i counts z

-- its tiles are added in each window
abbrev pub AreAdded : ℤ → ℤ → List Counted → Trapezoid → List Counted → Type 0
AreAdded size row counts z new = (i : ℤ) → count_at i new ≡ count_at i counts + count_in_frame (window size i row) z

-- its tiles in the window of one column
abbrev pub counted_in : ℤ → ℤ → Trapezoid → ℤ → Counted
counted_in size row z column = record { column = column; tiles = count_in_frame (window size column row) z }

-- no tile is in two of the trapezoids
abbrev pub AreApart : List Trapezoid → Type 0
AreApart traps = (t : Tile) → count_in traps t ≤ 1

-- the counts are those of these trapezoids: each window's is the number of their tiles in it
abbrev pub IsMapOf : RowMap → List Trapezoid → Type 0
IsMapOf m traps = (i : ℤ) → count_at i m.counts ≡ window_sum m.size i m.row traps

-- the counts are those of trapezoids of which none shares a tile with another, nor with this one
pub record IsApartFrom (m : RowMap) (z : Trapezoid) : Type 0 where
  pub traps : List Trapezoid
  pub counted : IsMapOf m traps
  pub apart : AreApart (traps ++ z ∷ [])

-- the trapezoid's tiles are added to the count of each window
pub record IsAdded (m : RowMap) (z : Trapezoid) (new : RowMap) : Type 0 where
  pub size : new.size ≡ m.size
  pub row : new.row ≡ m.row
  pub counts : AreAdded m.size m.row m.counts z new.counts
