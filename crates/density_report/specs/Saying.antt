-- What is said of the densities of a deck's outputs.
use Rattle.std.specs.Prelude.{ℕ, ℤ, ◌≡◌, ◌<◌, Bool, IsTrue, List, length, slice_get, Some}
use Rattle.half_grid.specs.declared.plane.Tile.{Tile}
use Rattle.depot.specs.Content.{Content, with_said, IsPartSaid}
use Rattle.deck_plan.specs.Areas.{IsInOutput}
use Rattle.deck_plan.specs.Plans.{Planned, planned_area}
use Rattle.density_report.specs.Tables.{Table, IsDensityTable}
use Rattle.density_report.specs.Texts.{tables_text}

-- the tables are those of the first n outputs
pub record AreTables (p : Planned) (size : ℤ) (n : ℕ) (tables : List Table) : Type 0 where
  pub each : (k : ℕ) → k < n → (table : Table) × (slice_get tables k ≡ Some table) × IsDensityTable (planned_area p k) size table
  pub count : length tables ≡ n

-- All tables were said: the text of each output's table, one after another, and nothing else has changed.
pub record IsSaid (p : Planned) (size : ℤ) (tells : Bool) (before now : Content) : Type 0 where
  pub tables : List Table
  pub are : AreTables p size (length p.deck.outputs) tables
  pub content : IsTrue tells → now ≡ with_said before (tables_text size p.deck.outputs tables)

-- The saying was cut short: a prefix of the text of all tables was said, and nothing else has changed.
pub record IsDensityCutShort (p : Planned) (size : ℤ) (before now : Content) : Type 0 where
  pub tables : List Table
  pub are : AreTables p size (length p.deck.outputs) tables
  pub part : IsPartSaid before (tables_text size p.deck.outputs tables) now
