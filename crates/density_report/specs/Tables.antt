-- Density tables.
--
-- The table of an area lists each window that has tiles of the area, with their number: by ascending row of windows, and
-- in a row by ascending column. Where it lists any it names the first one that has the greatest number. It gives the
-- number of all tiles of the area.
use Rattle.std.specs.Prelude.{ℕ, ℤ, ◌≡◌, ◌⊎◌, ◌<◌, ◌≤◌, ◌<ℤ◌, List, [], ◌∷◌, ◌++◌, sum_by, Option, None, Some, if◌then◌else◌}
use Rattle.std.specs.Ordering.{int_eq}
use Rattle.std.specs.List.{All}
use Rattle.half_grid.specs.declared.plane.Tile.{Tile}
use Rattle.density_map.specs.Windows.{IsWindowCount}
use Rattle.half_grid.specs.Sizes.{IsNumberIn}
use Rattle.density_report.specs.declared.entries.Entry.{Entry}

-- the first is listed before the second
abbrev pub IsBefore : Entry → Entry → Type 0
IsBefore a b = (a.row <ℤ b.row) ⊎ ((a.row ≡ b.row) × (a.column <ℤ b.column))

-- each is listed before all that come after it
abbrev pub AreAscending : List Entry → Type 0
AreAscending [] = Unit {0}
AreAscending (e ∷ entries) = All (IsBefore e) entries × AreAscending entries

-- what is listed for a window, which is 0 where it isn't listed
abbrev pub tiles_for : ℤ → ℤ → Entry → ℕ
tiles_for i j e = if int_eq e.row j then (if int_eq e.column i then e.tiles else 0) else 0

abbrev pub listed : ℤ → ℤ → List Entry → ℕ
listed i j entries = sum_by (tiles_for i j) entries

-- The entries are those of an area: the count of each window is what is listed for it, and none is listed for 0 tiles.
pub record AreEntries (area : Tile → Type 0) (size : ℤ) (entries : List Entry) : Type 0 where
  pub ascending : AreAscending entries
  pub above_zero : All (λ e. 0 < e.tiles) entries
  pub counts : (i j : ℤ) → IsWindowCount area size i j (listed i j entries)

-- the first of those that have the greatest number
pub record IsFirstGreatest (entries : List Entry) (greatest : Entry) : Type 0 where
  pub before : List Entry
  pub after : List Entry
  pub here : entries ≡ before ++ greatest ∷ after
  pub less : All (λ e. e.tiles < greatest.tiles) before
  pub no_greater : All (λ e. e.tiles ≤ greatest.tiles) after

-- it, or nothing where nothing is listed
abbrev pub IsMost : List Entry → Option Entry → Type 0
IsMost entries None = entries ≡ []
IsMost entries (Some greatest) = IsFirstGreatest entries greatest

pub record Table : Type 0 where
  pub entries : List Entry
  pub most : Option Entry
  pub triangles : ℕ

-- it is the table of an area, for windows of a size
pub record IsDensityTable (area : Tile → Type 0) (size : ℤ) (table : Table) : Type 0 where
  pub entries : AreEntries area size table.entries
  pub most : IsMost table.entries table.most
  pub triangles : IsNumberIn area table.triangles

-- What its numbers are: each that is listed is the number of the area's tiles in its window, they add up to the number of
-- all tiles of the area, and no window has more than the one that is named for having the most.
pub record HasTrueNumbers (area : Tile → Type 0) (size : ℤ) (table : Table) : Type 0 where
  pub each : All (λ e. IsWindowCount area size e.column e.row e.tiles) table.entries
  pub sum : sum_by (λ e. e.tiles) table.entries ≡ table.triangles
  pub all : IsNumberIn area table.triangles
  pub most : (i j : ℤ) (n : ℕ) (greatest : Entry) → table.most ≡ Some greatest → IsWindowCount area size i j n → n ≤ greatest.tiles
