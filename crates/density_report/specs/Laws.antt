-- What holds of density tables.
use Rattle.std.specs.Prelude.{ℕ, ℤ, ◌≡◌}
use Rattle.density_map.specs.Windows.{IsWindowSize}
use Rattle.deck_plan.specs.Plans.{Planned, planned_area}
use Rattle.density_report.specs.Tables.{Table, IsDensityTable, HasTrueNumbers}

-- The numbers of an output's table are true of its area, and add up.
abbrev pub NumbersAreTrue : Type 0
NumbersAreTrue = (p : Planned) (k : ℕ) (size : ℤ) (table : Table) → IsWindowSize size → IsDensityTable (planned_area p k) size table
    → HasTrueNumbers (planned_area p k) size table

-- An output has one table.
abbrev pub OneTable : Type 0
OneTable = (p : Planned) (k : ℕ) (size : ℤ) (one other : Table) → IsDensityTable (planned_area p k) size one → IsDensityTable (planned_area p k) size other
    → one ≡ other
