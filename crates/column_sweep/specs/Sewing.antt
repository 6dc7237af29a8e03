-- Maximal trapezoids of an area that are known, and others that have the rest of its tiles.
use Rattle.std.specs.List.{Contains}
use Rattle.std.specs.Prelude.{ℤ, pos, ◌+◌, ◌<◌, ◌≤◌, ◌-ℤ◌, ◌≤ℤ◌, ◌<ℤ◌, ◌≡◌, ◌⊎◌, List, [], ◌∷◌, ◌++◌, All}
use Rattle.half_grid.specs.Edges.{EdgeParts, edges_winding}
use Rattle.half_grid.specs.JoinedLists.{IsInWindow, IsJoined}
use Rattle.half_grid.specs.Rows.{place}
use Rattle.half_grid.specs.Trapezoids.{Trapezoid, IsLegal, CoversExactly, count_in}
use Rattle.half_grid.specs.Windows.{RowRange}
use Rattle.half_grid.specs.declared.plane.Tile.{Tile}
use Rattle.half_grid.specs.declared.border.Operand.{Operand}
use Rattle.trap_join.specs.Maximal.{IsMaximal}
use Rattle.column_sweep.specs.ColumnLaws.{IsInColumn, IsStrictlyInside}
use Rattle.column_sweep.specs.RowSums.{row_sum}

-- each tile is in just one of the trapezoids of both lists where it is in the area, and in none otherwise
pub record CoverTogether (area : Tile → Type 0) (finals seams : List Trapezoid) : Type 0 where
  pub once : (t : Tile) → area t → count_in finals t + count_in seams t ≡ 1
  pub never : (t : Tile) → (area t → ⊥) → count_in finals t + count_in seams t ≡ 0

-- the tile is in one of both lists
abbrev pub HasTile : List Trapezoid → List Trapezoid → Tile → Type 0
HasTile finals seams t = 0 < count_in finals t + count_in seams t

-- a legal trapezoid in the rows of the window
pub record IsPiece (window : RowRange) (z : Trapezoid) : Type 0 where
  pub legal : IsLegal z
  pub in_window : IsInWindow window z

-- the first are maximal in the area that both lists have
pub record AreSewn (window : RowRange) (finals seams : List Trapezoid) : Type 0 where
  pub maximal : All (IsMaximal (HasTile finals seams) window) finals
  pub pieces : All (IsPiece window) seams
  pub apart : (t : Tile) → count_in finals t + count_in seams t ≤ 1

-- the part of an area left of an upright line
abbrev pub LeftOf : ℤ → (Tile → Type 0) → Tile → Type 0
LeftOf x area t = area t × (t.i <ℤ x)

-- maximal in an area, with no corner on a side of a column or beyond it
pub record IsSettled (area : Tile → Type 0) (window : RowRange) (from to : ℤ) (z : Trapezoid) : Type 0 where
  pub maximal : IsMaximal area window z
  pub inside : IsStrictlyInside from to z

-- the trapezoids of a column, told apart
pub record AreSorted (from x : ℤ) (traps insides crossings : List Trapezoid) : Type 0 where
  pub strictly_inside : All (λ z. Contains traps z × IsStrictlyInside from x z) insides
  pub others : All (Contains traps) crossings
  pub counts : (t : Tile) → count_in insides t + count_in crossings t ≡ count_in traps t

-- the joined list of an area, told apart so
pub record AreSweptIn (area : Tile → Type 0) (window : RowRange) (from x : ℤ) (insides crossings : List Trapezoid) : Type 0 where
  pub traps : List Trapezoid
  pub joined : IsJoined window traps
  pub covers : CoversExactly traps area
  pub sorted : AreSorted from x traps insides crossings

-- the trapezoids of a column, told apart and put after others
pub record AreSortedBehind (from x : ℤ) (traps finals seams all_finals all_seams : List Trapezoid) : Type 0 where
  pub insides : List Trapezoid
  pub crossings : List Trapezoid
  pub finals_are : all_finals ≡ finals ++ insides
  pub seams_are : all_seams ≡ seams ++ crossings
  pub sorted : AreSorted from x traps insides crossings

-- all trapezoids of a column, whatever makes a list all of them, told apart and put after others
pub record AreSweptBehind (AreAll : List Trapezoid → Type 0) (from x : ℤ) (finals seams all_finals all_seams : List Trapezoid) : Type 0 where
  pub traps : List Trapezoid
  pub all : AreAll traps
  pub sorted : AreSortedBehind from x traps finals seams all_finals all_seams

-- Both lists have an area's part left of a line. The first are maximal in all that they have, and don't touch the line.
-- All of it lies right of some other line.
pub record AreSweptTo (area : Tile → Type 0) (window : RowRange) (low x : ℤ) (finals seams : List Trapezoid) : Type 0 where
  pub settled : All (IsSettled (HasTile finals seams) window low x) finals
  pub pieces : All (IsPiece window) seams
  pub within : (t : Tile) → HasTile finals seams t → IsInColumn low x t
  pub covers : CoverTogether (LeftOf x area) finals seams

-- right of the line, or on it, these edges wind as all do, and left of it they wind round nothing
pub record AreLeft (x : ℤ) (edges rest : List EdgeParts) : Type 0 where
  pub same : (o : Operand) (t : Tile) → x ≤ℤ t.i → edges_winding o rest t ≡ edges_winding o edges t
  pub nothing : (o : Operand) (t : Tile) → t.i <ℤ x → edges_winding o rest t ≡ pos 0
  pub sums : (o : Operand) (j : ℤ) → row_sum o j rest ≡ row_sum o j edges

-- two pairs of lists have each tile equally often
abbrev pub HaveSameTiles : List Trapezoid → List Trapezoid → List Trapezoid → List Trapezoid → Type 0
HaveSameTiles finals seams old_finals old_seams = (t : Tile) → count_in finals t + count_in seams t ≡ count_in old_finals t + count_in old_seams t

-- each stands no later than those after it: by ascending top, those with one top from left to right
abbrev pub StandsNotAfter : Trapezoid → Trapezoid → Type 0
StandsNotAfter y z = (y.y1 <ℤ z.y1) ⊎ ((y.y1 ≡ z.y1) × (place y.left (y.y1 -ℤ pos 1) ≤ℤ place z.left (z.y1 -ℤ pos 1)))

abbrev pub StandSorted : List Trapezoid → Type 0
StandSorted [] = Unit {0}
StandSorted (z ∷ zs) = All (StandsNotAfter z) zs × StandSorted zs
