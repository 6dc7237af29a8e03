-- Joined lists: the maximal trapezoids of a set of tiles in a window of rows.
--
-- A list of legal trapezoids is joined in a window where all of this holds. Each lies in the window's rows, and no
-- tile is in two. In each row of a trapezoid the tile just left of it and the tile just right of it are in no
-- trapezoid of the list. No two with the same left and the same right line have the top of one at the bottom of
-- the other. They stand by ascending top, those with one top from left to right.
use Rattle.std.specs.Prelude.{pos, ◌+ℤ◌, ◌-ℤ◌, ◌≤ℤ◌, ◌<ℤ◌, ◌≤◌, ◌≡◌, ◌≢◌, ◌⊎◌, List, [], ◌∷◌}
use Rattle.std.specs.List.{All, Contains}
use Rattle.half_grid.specs.Rows.{number_in_row, place}
use Rattle.half_grid.specs.Trapezoids.{Trapezoid, IsLegal, count_in}
use Rattle.half_grid.specs.Windows.{RowRange}
use Rattle.half_grid.specs.declared.plane.Tile.{Tile}

pub record IsInWindow (window : RowRange) (z : Trapezoid) : Type 0 where
  pub low : window.y0 ≤ℤ z.y0
  pub high : z.y1 ≤ℤ window.y1

-- the tile just left or just right of the trapezoid in one of its rows
pub record IsBeside (z : Trapezoid) (t : Tile) : Type 0 where
  pub above_bottom : z.y0 ≤ℤ t.j
  pub below_top : t.j <ℤ z.y1
  pub beside : (number_in_row t +ℤ pos 1 ≡ place z.left t.j) ⊎ (number_in_row t ≡ place z.right t.j)

-- by ascending top, and those with one top from left to right in the row below it
abbrev pub StandsBefore : Trapezoid → Trapezoid → Type 0
StandsBefore y z = (y.y1 <ℤ z.y1) ⊎ ((y.y1 ≡ z.y1) × (place y.left (y.y1 -ℤ pos 1) <ℤ place z.left (z.y1 -ℤ pos 1)))

abbrev pub StandInOrder : List Trapezoid → Type 0
StandInOrder [] = Unit {0}
StandInOrder (z ∷ zs) = All (StandsBefore z) zs × StandInOrder zs

pub record IsJoined (window : RowRange) (traps : List Trapezoid) : Type 0 where
  pub legal : All IsLegal traps
  pub in_window : All (IsInWindow window) traps
  pub apart : (t : Tile) → count_in traps t ≤ 1
  pub ends_free : (z : Trapezoid) (t : Tile) → Contains traps z → IsBeside z t → count_in traps t ≡ 0
  pub not_stacked : (y z : Trapezoid) → Contains traps y → Contains traps z → y.left ≡ z.left → y.right ≡ z.right → y.y1 ≢ z.y0
  pub in_order : StandInOrder traps

-- For a window and a set of tiles there is at most one joined list: two that have the same tiles are one.
abbrev pub OneJoinedList : Type 0
OneJoinedList = (window : RowRange) (xs ys : List Trapezoid) → IsJoined window xs → IsJoined window ys
    → ((t : Tile) → count_in xs t ≡ count_in ys t) → xs ≡ ys
