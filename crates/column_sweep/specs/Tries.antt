-- A sweep that may be given up: either it gives the whole joined list, or the edges are given back, in any order.
use Rattle.std.specs.Prelude.{ℕ, ℤ, ◌<◌, ◌-◌, ◌^◌, Bool, List, IsPermutation, ⊤}
use Rattle.half_grid.specs.Edges.{EdgeParts}
use Rattle.half_grid.specs.Windows.{RowRange}
use Rattle.column_sweep.specs.Sweeps.{IsSwept}
use Rattle.column_sweep.specs.declared.sweep.Tried.{Tried}
use Rattle.column_sweep.specs.declared.sweep.Tried.TheVariants.{Whole, GivenUp}

abbrev pub IsTried : (ℤ → ℤ → Bool → Type 0) → List EdgeParts → RowRange → Tried → Type 0
IsTried post edges window (Whole swept) = IsSwept post edges window swept.traps.items
IsTried post edges window (GivenUp rest walked) = IsPermutation rest.items edges

-- a sweep that may go over as many edges as a number has is never given up
abbrev pub IsGivenUpFor : ℕ → Tried → Type 0
IsGivenUpFor most (Whole swept) = ⊤
IsGivenUpFor most (GivenUp rest walked) = most < 2 ^ 64 - 1
