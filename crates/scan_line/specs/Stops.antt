-- The stops of edges in a window, and the slabs between them.
--
-- A stop is an end of the window, or a Y inside it where an edge ends, or where two edges of different lines that span
-- the rows on both sides of Y meet. A slab is the rows from one stop up to below the next. In all rows of a slab the
-- same edges stand in the same order.
use Rattle.std.specs.Prelude.{ℤ, pos, ◌-ℤ◌, ◌≤ℤ◌, ◌<ℤ◌, ◌≡◌, ◌≢◌, ◌⊎◌, IsTrue, List, Any}
use Rattle.std.specs.List.{Contains}
use Rattle.half_grid.specs.Edges.{EdgeParts, spans}
use Rattle.half_grid.specs.Meetings.{MeetAt}
use Rattle.half_grid.specs.Windows.{RowRange}

-- above the window's bottom and below its top
pub record IsInside (window : RowRange) (y : ℤ) : Type 0 where
  pub above_bottom : window.y0 <ℤ y
  pub below_top : y <ℤ window.y1

-- an edge spans the rows on both sides of the Y
pub record GoesThrough (e : EdgeParts) (y : ℤ) : Type 0 where
  pub below : IsTrue (spans e (y -ℤ pos 1))
  pub above : IsTrue (spans e y)

-- two edges of different lines meet at the Y, and both go through it
pub record CrossAt (e f : EdgeParts) (y : ℤ) : Type 0 where
  pub differ : e.line ≢ f.line
  pub meet : MeetAt e.line f.line y
  pub first : GoesThrough e y
  pub second : GoesThrough f y

-- some edge has an end at the Y
abbrev pub SomeEnd : List EdgeParts → ℤ → Type 0
SomeEnd edges y = Any (λ e. (e.y0 ≡ y) ⊎ (e.y1 ≡ y)) edges

-- some two edges cross there
pub record SomeCrossing (edges : List EdgeParts) (y : ℤ) : Type 0 where
  pub e : EdgeParts
  pub f : EdgeParts
  pub has_e : Contains edges e
  pub has_f : Contains edges f
  pub cross : CrossAt e f y

abbrev pub IsInnerStop : List EdgeParts → RowRange → ℤ → Type 0
IsInnerStop edges window y = IsInside window y × (SomeEnd edges y ⊎ SomeCrossing edges y)

abbrev pub IsStop : List EdgeParts → RowRange → ℤ → Type 0
IsStop edges window y = (y ≡ window.y0) ⊎ (y ≡ window.y1) ⊎ IsInnerStop edges window y

-- the rows between two consecutive stops
pub record IsSlab (edges : List EdgeParts) (window : RowRange) (slab : RowRange) : Type 0 where
  pub bottom : IsStop edges window slab.y0
  pub top : IsStop edges window slab.y1
  pub has_rows : slab.y0 <ℤ slab.y1
  pub none_between : (y : ℤ) → slab.y0 <ℤ y → y <ℤ slab.y1 → IsStop edges window y → ⊥

-- the slab's rows are rows of the window
pub record IsWithin (window slab : RowRange) : Type 0 where
  pub bottom : window.y0 ≤ℤ slab.y0
  pub top : slab.y1 ≤ℤ window.y1
