-- The shot list of an area.
--
-- Band k has the rows from k times the band height up to below k + 1 times the band height, for any whole k. What the
-- area has in a band is one joined list of trapezoids. The shots are the cut lists of these trapezoids, the bands in
-- ascending order.
--
-- The rule is this project's own. Neither the bands nor the cuts change which tiles are covered.
use Rattle.std.specs.Prelude.{ℤ, pos, ◌≡◌, ◌+ℤ◌, ◌*ℤ◌, ◌≤ℤ◌, ◌<ℤ◌, List, [], ◌∷◌, length}
use Rattle.std.specs.List.{All}
use Rattle.half_grid.specs.Trapezoids.{Trapezoid, IsShot}
use Rattle.half_grid.specs.Windows.{RowRange}
use Rattle.half_grid.specs.declared.plane.Tile.{Tile}
use Rattle.geo_stream.specs.Flattened.{end_to_end}
use Rattle.bool_ops.specs.Operations.{IsInRows, IsJoinedOf}
use Rattle.deck_plan.specs.Bands.{band}
use Rattle.fracture.specs.Cutting.{shots_of}

-- how many rows a band has, and the limits of a shot: its greatest height and its greatest width
pub record Rules : Type 0 where
  pub rows : ℤ
  pub height : ℤ
  pub width : ℤ

-- the part of an area in the rows of a window
pub record IsAreaInRows (area : Tile → Type 0) (window : RowRange) (t : Tile) : Type 0 where
  pub rows : IsInRows window t
  pub inside : area t

-- the trapezoids of the area in band k
pub record IsBandList (rows : ℤ) (area : Tile → Type 0) (k : ℤ) (traps : List Trapezoid) : Type 0 where
  pub shots : All IsShot traps
  pub joined : IsJoinedOf (band rows k) (IsAreaInRows area (band rows k)) traps

-- the same of band k and of those above it, one after another
abbrev pub AreBandLists : ℤ → (Tile → Type 0) → ℤ → List (List Trapezoid) → Type 0
AreBandLists rows area k [] = Unit {0}
AreBandLists rows area k (traps ∷ lists) = IsBandList rows area k traps × AreBandLists rows area (k +ℤ pos 1) lists

-- The shots of all bands below band k: those of the bands from some first one on, below which no tile of the area lies.
pub record IsShotListBelow (rules : Rules) (area : Tile → Type 0) (k : ℤ) (shots : List Trapezoid) : Type 0 where
  pub first : ℤ
  pub lists : List (List Trapezoid)
  pub joined : AreBandLists rules.rows area first lists
  pub up_to : first +ℤ pos (length lists) ≡ k
  pub none_below : (t : Tile) → area t → (first *ℤ rules.rows) ≤ℤ t.j
  pub cut : shots ≡ shots_of rules.height rules.width (end_to_end lists)

-- The shots of all bands: those below some band, in which and above which no tile of the area lies.
pub record IsShotList (rules : Rules) (area : Tile → Type 0) (shots : List Trapezoid) : Type 0 where
  pub k : ℤ
  pub below : IsShotListBelow rules area k shots
  pub none_above : (t : Tile) → area t → t.j <ℤ (k *ℤ rules.rows)
