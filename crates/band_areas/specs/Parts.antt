-- Parts of an output's area in some rows, and what is kept of the areas in the bands.
use Rattle.std.specs.Prelude.{ℕ, ◌≤ℤ◌, List, All}
use Rattle.half_grid.specs.Trapezoids.{IsShot}
use Rattle.half_grid.specs.Windows.{RowRange}
use Rattle.bool_ops.specs.Operations.{IsJoinedOf}
use Rattle.deck_plan.specs.Areas.{IsInBand}
use Rattle.deck_plan.specs.Bands.{AreRowsNear}
use Rattle.deck_plan.specs.Needs.{IsBand}
use Rattle.deck_plan.specs.Plans.{Planned}
use Rattle.band_areas.specs.declared.parts.Part.{Part}
use Rattle.band_areas.specs.declared.areas.BandAreas.{BandAreas}

-- the first window lies in the second
pub record IsWithin (rows window : RowRange) : Type 0 where
  pub from : window.y0 ≤ℤ rows.y0
  pub to : rows.y1 ≤ℤ window.y1

-- a list of shots, for some rows within reach
pub record IsSoundPart (part : Part) : Type 0 where
  pub shots : All IsShot part.traps.items
  pub rows : IsBand part.rows

-- the joined list of what output k of a plan has in its rows
pub record IsPart (p : Planned) (k : ℕ) (part : Part) : Type 0 where
  pub sound : IsSoundPart part
  pub joined : IsJoinedOf part.rows (IsInBand p.cells p.top p.deck k part.rows) part.traps.items

abbrev pub AreParts : Planned → ℕ → List Part → Type 0
AreParts p k parts = All (IsPart p k) parts

-- the areas of output k of a plan
pub record AreAreasOf (p : Planned) (k : ℕ) (areas : BandAreas) : Type 0 where
  pub near : AreRowsNear areas.rows
  pub parts : AreParts p k areas.parts.items
