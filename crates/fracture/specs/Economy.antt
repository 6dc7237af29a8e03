-- When a list of shots has no needless cut.
--
-- Two shots side by side in the same rows, the right line of one being the left line of the other, would together
-- have a box wider than the limit. Two shots of one band with the same two side lines, the top of one being the
-- bottom of the other, would together be taller than the limit, where in each of their rows the tiles next to them on
-- both sides are outside the area.
use Rattle.std.specs.Prelude.{ℤ, pos, ◌+ℤ◌, ◌*ℤ◌, ◌≤ℤ◌, ◌<ℤ◌, ◌≡◌, List}
use Rattle.std.specs.List.{Contains}
use Rattle.half_grid.specs.JoinedLists.{IsBeside}
use Rattle.half_grid.specs.Trapezoids.{Trapezoid, trapezoid, box_width}
use Rattle.half_grid.specs.declared.plane.Tile.{Tile}
use Rattle.fracture.specs.Cutting.{height_of}

-- the trapezoid of two shots side by side, the first on the left, and that of two stacked ones, the first below
abbrev pub side_by_side : Trapezoid → Trapezoid → Trapezoid
side_by_side y z = trapezoid y.y0 y.y1 y.left z.right

abbrev pub stacked : Trapezoid → Trapezoid → Trapezoid
stacked y z = trapezoid y.y0 z.y1 y.left y.right

-- band k has the rows from k times its height up to below k + 1 times its height
pub record IsInBand (rows k : ℤ) (z : Trapezoid) : Type 0 where
  pub low : (k *ℤ rows) ≤ℤ z.y0
  pub high : z.y1 ≤ℤ ((k +ℤ pos 1) *ℤ rows)

abbrev pub AreInOneBand : ℤ → Trapezoid → Trapezoid → Type 0
AreInOneBand rows y z = (k : ℤ) × IsInBand rows k y × IsInBand rows k z

-- the tiles next to it on both sides are outside the area
abbrev pub StandsAlone : (Tile → Type 0) → Trapezoid → Type 0
StandsAlone area z = (t : Tile) → IsBeside z t → area t → ⊥

pub record HasNoNeedlessCut (rows height width : ℤ) (area : Tile → Type 0) (shots : List Trapezoid) : Type 0 where
  pub upright : (y z : Trapezoid) → Contains shots y → Contains shots z → y.y0 ≡ z.y0 → y.y1 ≡ z.y1 → y.right ≡ z.left
      → width <ℤ box_width (side_by_side y z)
  pub level : (y z : Trapezoid) → Contains shots y → Contains shots z → y.left ≡ z.left → y.right ≡ z.right → y.y1 ≡ z.y0
      → AreInOneBand rows y z → StandsAlone area (stacked y z) → height <ℤ height_of (stacked y z)
