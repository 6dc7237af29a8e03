-- What is given of the joined list of a band.
--
-- The rows of the band below some row are joined. Of their list, the trapezoids that were given are the first, those
-- that wait are the next, and those that grow are the last. While there are rows above, just the last reach the top.
use Rattle.std.specs.Prelude.{ℕ, ℤ, ◌≡◌, ◌+◌, ◌*◌, ◌≤ℤ◌, ◌<ℤ◌, List, [], ◌∷◌, ◌++◌, All, Option, Some, None, Vec}
use Rattle.std.specs.Global.{Global}
use Rattle.std.specs.Int.{int_gap}
use Rattle.half_grid.specs.Trapezoids.{Trapezoid}
use Rattle.half_grid.specs.Windows.{RowRange, row_range}
use Rattle.deck_plan.specs.Needs.{IsAskedBand}
use Rattle.deck_plan.specs.Plans.{Planned, IsBandOf}
use Rattle.half_grid.specs.declared.shot.Trap.{Trap}
use Rattle.band_areas.specs.declared.strips.Strips.{Strips}

-- the rows that are joined, and their list
abbrev pub rows_of : Strips → RowRange
rows_of strips = row_range strips.band.y0 strips.next.y

abbrev pub list_of : Strips → List Trapezoid → List Trapezoid
list_of strips given = (given ++ strips.waiting.items) ++ strips.growing.items

-- of output k of a plan
pub record HasGiven (p : Planned) (k : ℕ) (strips : Strips) (given : List Trapezoid) : Type 0 where
  pub band : IsAskedBand strips.band
  pub low : strips.band.y0 ≤ℤ strips.next.y
  pub high : strips.next.y ≤ℤ strips.band.y1
  pub list : IsBandOf p k (rows_of strips) (list_of strips given)
  pub below : strips.next.y <ℤ strips.band.y1 → All (λ z. z.y1 <ℤ strips.next.y) (given ++ strips.waiting.items)
  pub reach : All (λ z. z.y1 ≡ strips.next.y) strips.growing.items
  pub ended : strips.band.y1 ≤ℤ strips.next.y → strips.growing.items ≡ []

-- something of some list was given, maybe nothing
abbrev pub IsBegun : Strips → Type 0
IsBegun strips = (p : Planned) × (k : ℕ) × (given : List Trapezoid) × HasGiven p k strips given

-- the trapezoids that a call gives
abbrev pub given_by : Option (Vec Trap Global) → List Trapezoid
given_by None = []
given_by (Some traps) = traps.items

-- a number that falls with each call that gives some
abbrev pub one_for : List Trapezoid → ℕ
one_for [] = 0
one_for (z ∷ traps) = 1

abbrev pub left_in : Strips → ℕ
left_in strips = 2 * int_gap strips.next.y strips.band.y1 + one_for strips.waiting.items

-- from this top on what lies in the rows may still grow in the band: their own top, or one above all where they are the last
pub record IsTopFor (rows band : RowRange) (top : ℤ) : Type 0 where
  pub low : rows.y1 ≤ℤ top
  pub inner : rows.y1 <ℤ band.y1 → top ≡ rows.y1
  pub last : band.y1 ≤ℤ rows.y1 → rows.y1 <ℤ top
