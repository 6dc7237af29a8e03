-- Why a sweep in columns gives the maximal trapezoids of the whole.
--
-- A column has the tiles from one X up to below another. A maximal trapezoid of a column's part of an area that lies
-- strictly inside the column is one of the whole area's. And once some maximal trapezoids of an area are taken away, the
-- maximal ones of what is left are just the others. An area is given by a test on tiles.
use Rattle.std.specs.Prelude.{ℤ, ◌≤ℤ◌, ◌<ℤ◌, ◌↔◌, Bool, IsTrue, List}
use Rattle.std.specs.List.{All, Contains}
use Rattle.half_grid.specs.Lines.{x_on}
use Rattle.half_grid.specs.Trapezoids.{Trapezoid, IsInTrapezoid}
use Rattle.half_grid.specs.Windows.{RowRange}
use Rattle.half_grid.specs.declared.plane.Tile.{Tile}
use Rattle.trap_join.specs.Maximal.{IsMaximal}

-- the tile is in the column from one X up to below another
pub record IsInColumn (from to : ℤ) (t : Tile) : Type 0 where
  pub from_left : from ≤ℤ t.i
  pub below_right : t.i <ℤ to

-- the part of an area in the column
abbrev pub PartIn : ℤ → ℤ → (Tile → Type 0) → Tile → Type 0
PartIn from to area t = IsInColumn from to t × area t

-- no corner of the trapezoid lies on a side of the column, or beyond it
pub record IsStrictlyInside (from to : ℤ) (z : Trapezoid) : Type 0 where
  pub bottom_left : from <ℤ x_on z.left z.y0
  pub top_left : from <ℤ x_on z.left z.y1
  pub bottom_right : x_on z.right z.y0 <ℤ to
  pub top_right : x_on z.right z.y1 <ℤ to

abbrev pub StaysMaximal : Type 0
StaysMaximal = (has : Tile → Bool) (window : RowRange) (from to : ℤ) (z : Trapezoid)
    → IsMaximal (PartIn from to (λ t. IsTrue (has t))) window z → IsStrictlyInside from to z → IsMaximal (λ t. IsTrue (has t)) window z

-- the tile is in none of the trapezoids
abbrev pub IsFree : List Trapezoid → Tile → Type 0
IsFree traps t = (z : Trapezoid) → Contains traps z → IsInTrapezoid z t → ⊥

-- what is left of an area without these trapezoids
abbrev pub Rest : (Tile → Type 0) → List Trapezoid → Tile → Type 0
Rest area traps t = area t × IsFree traps t

abbrev pub OthersStay : Type 0
OthersStay = (has : Tile → Bool) (window : RowRange) (taken : List Trapezoid) → All (IsMaximal (λ t. IsTrue (has t)) window) taken
    → (z : Trapezoid) → IsMaximal (Rest (λ t. IsTrue (has t)) taken) window z ↔ (IsMaximal (λ t. IsTrue (has t)) window z × (Contains taken z → ⊥))
