-- The maximal trapezoids of an area within a window of rows.
--
-- An area is any set of tiles. In a row its tiles form runs: a left and a right line bound a run where all tiles of
-- the row between them are in the area, and neither the tile just left of them nor the tile just right of them is. A
-- maximal trapezoid is one of the largest sets of consecutive rows of the window in each of which a run with the same
-- left and the same right line stands.
use Rattle.std.specs.Prelude.{ℤ, pos, ◌+ℤ◌, ◌-ℤ◌, ◌≤ℤ◌, ◌<ℤ◌, ◌≡◌, ◌↔◌, Bool, IsTrue, List}
use Rattle.std.specs.List.{All, Contains}
use Rattle.half_grid.specs.Rows.{number_in_row, place}
use Rattle.half_grid.specs.Trapezoids.{Trapezoid, IsLegal, CoversExactly}
use Rattle.half_grid.specs.Windows.{RowRange}
use Rattle.half_grid.specs.JoinedLists.{IsInWindow, IsJoined, StandInOrder}
use Rattle.half_grid.specs.declared.plane.Tile.{Tile}
use Rattle.half_grid.specs.declared.plane.Line.{Line}

-- the two lines bound a run of the area in the row
pub record IsRunAt (area : Tile → Type 0) (left right : Line) (j : ℤ) : Type 0 where
  pub has_tile : place left j <ℤ place right j
  pub inside : (t : Tile) → t.j ≡ j → place left j ≤ℤ number_in_row t → number_in_row t <ℤ place right j → area t
  pub left_end : (t : Tile) → t.j ≡ j → (number_in_row t +ℤ pos 1) ≡ place left j → area t → ⊥
  pub right_end : (t : Tile) → t.j ≡ j → number_in_row t ≡ place right j → area t → ⊥

-- its lines bound a run in each of its rows, and bound none in the row above it nor in the row below it
pub record IsMaximal (area : Tile → Type 0) (window : RowRange) (z : Trapezoid) : Type 0 where
  pub legal : IsLegal z
  pub in_window : IsInWindow window z
  pub runs : (j : ℤ) → z.y0 ≤ℤ j → j <ℤ z.y1 → IsRunAt area z.left z.right j
  pub top : z.y1 <ℤ window.y1 → IsRunAt area z.left z.right z.y1 → ⊥
  pub bottom : window.y0 <ℤ z.y0 → IsRunAt area z.left z.right (z.y0 -ℤ pos 1) → ⊥

-- the list has exactly the maximal trapezoids
pub record AreMaximal (area : Tile → Type 0) (window : RowRange) (traps : List Trapezoid) : Type 0 where
  pub each : All (IsMaximal area window) traps
  pub all : (z : Trapezoid) → IsMaximal area window z → Contains traps z

-- A list of trapezoids that stand in order and cover an area exactly is joined exactly where it has exactly the
-- area's maximal trapezoids. The area is given by a test on tiles.
abbrev pub JoinedAreMaximal : Type 0
JoinedAreMaximal = (has : Tile → Bool) (window : RowRange) (traps : List Trapezoid) → StandInOrder traps → CoversExactly traps (λ t. IsTrue (has t))
    → IsJoined window traps ↔ AreMaximal (λ t. IsTrue (has t)) window traps
