-- The verdict on a list of shots, whoever made it.
--
-- The shots are exact over the rows of a window where each of them fits the limits, and each tile of the window is in as
-- many shots as trapezoids of the area. Otherwise the first shot that doesn't fit is named, and where all fit, the
-- lowest tile that is in another number of shots than of trapezoids, leftmost in its row.
use Rattle.std.specs.Prelude.{ℕ, ◌<◌, ◌≤ℤ◌, ◌<ℤ◌, ◌≡◌, ◌≢◌, List, Some, slice_get, All}
use Rattle.half_grid.specs.Trapezoids.{Trapezoid, FitsLimits, count_in}
use Rattle.half_grid.specs.Windows.{RowRange}
use Rattle.half_grid.specs.declared.plane.Tile.{Tile}
use Rattle.half_grid.specs.declared.shot.Limits.{Limits}
use Rattle.plane_sweep.specs.Lowest.{ComesNoLater}

abbrev pub Fits : Limits → Trapezoid → Type 0
Fits limits z = FitsLimits limits.height limits.width z

-- shot k, counted from 0, is the first that doesn't fit
pub record IsFirstTooLarge (shots : List Trapezoid) (limits : Limits) (k : ℕ) : Type 0 where
  pub shot : Trapezoid
  pub at : slice_get shots k ≡ Some shot
  pub too_large : Fits limits shot → ⊥
  pub before_fit : (i : ℕ) (z : Trapezoid) → i < k → slice_get shots i ≡ Some z → Fits limits z

pub record IsInRows (window : RowRange) (t : Tile) : Type 0 where
  pub from : window.y0 ≤ℤ t.j
  pub below : t.j <ℤ window.y1

-- the tile is in the window, and in another number of shots than of trapezoids of the area
pub record IsMiscovered (shots area : List Trapezoid) (window : RowRange) (t : Tile) : Type 0 where
  pub rows : IsInRows window t
  pub differ : count_in shots t ≢ count_in area t

-- the lowest such tile, leftmost in its row
pub record IsLowestMiscovered (shots area : List Trapezoid) (window : RowRange) (t : Tile) : Type 0 where
  pub miscovered : IsMiscovered shots area window t
  pub first : (u : Tile) → IsMiscovered shots area window u → ComesNoLater t u

-- the tile, in how many shots it is, and in how many it should be
pub record IsFirstWrongTileInRows (shots area : List Trapezoid) (window : RowRange) (t : Tile) (count wanted : ℕ) : Type 0 where
  pub tile : IsLowestMiscovered shots area window t
  pub count_is : count ≡ count_in shots t
  pub wanted_is : wanted ≡ count_in area t

-- each tile of the window is in as many shots as trapezoids of the area
abbrev pub CoversAlike : List Trapezoid → List Trapezoid → RowRange → Type 0
CoversAlike shots area window = (t : Tile) → IsInRows window t → count_in shots t ≡ count_in area t

pub record IsExact (shots area : List Trapezoid) (window : RowRange) (limits : Limits) : Type 0 where
  pub fit : All (Fits limits) shots
  pub alike : CoversAlike shots area window

-- all shots fit, and this is the first fault of what they cover
pub record IsMiscover (shots area : List Trapezoid) (window : RowRange) (limits : Limits) (t : Tile) (count wanted : ℕ) : Type 0 where
  pub fit : All (Fits limits) shots
  pub fault : IsFirstWrongTileInRows shots area window t count wanted
