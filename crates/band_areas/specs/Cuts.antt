-- Joined lists cut to some rows: each of their trapezoids that meets the rows gives one, its rows among these.
use Rattle.std.specs.Prelude.{ℤ, pos, ◌-ℤ◌, ◌≤ℤ◌, ◌≡◌, Bool, ◌&&◌, int_le, int_lt, List, [], ◌∷◌, All}
use Rattle.std.specs.Int.{int_min, int_max}
use Rattle.half_grid.specs.JoinedLists.{IsJoined}
use Rattle.half_grid.specs.Rows.{place}
use Rattle.half_grid.specs.Trapezoids.{Trapezoid, trapezoid, count_in}
use Rattle.half_grid.specs.Windows.{RowRange}
use Rattle.half_grid.specs.declared.plane.Tile.{Tile}
use Rattle.bool_ops.specs.Operations.{IsInRows}

-- the rows of a trapezoid among these
abbrev pub cut_to : RowRange → Trapezoid → Trapezoid
cut_to rows z = trapezoid (int_max z.y0 rows.y0) (int_min z.y1 rows.y1) z.left z.right

-- the joined list, in some rows, of the tiles of a list
pub record IsCutTo (rows : RowRange) (traps part : List Trapezoid) : Type 0 where
  pub joined : IsJoined rows part
  pub inside : (t : Tile) → IsInRows rows t → count_in part t ≡ count_in traps t
  pub outside : (t : Tile) → (IsInRows rows t → ⊥) → count_in part t ≡ 0

-- ---- in which order

-- whether the trapezoid ends in the rows, below their top
abbrev pub ends_in : RowRange → Trapezoid → Bool
ends_in rows z = int_lt rows.y0 z.y1 && int_lt z.y1 rows.y1

-- whether it has rows among these and reaches their top
abbrev pub reaches_top : RowRange → Trapezoid → Bool
reaches_top rows z = int_lt z.y0 rows.y1 && int_le rows.y1 z.y1

-- the place of its left line in the row below its top
abbrev pub top_place : Trapezoid → ℤ
top_place z = place z.left (z.y1 -ℤ pos 1)

-- from left to right, by these places
abbrev pub PlacesAscend : List Trapezoid → Type 0
PlacesAscend [] = Unit {0}
PlacesAscend (z ∷ zs) = All (λ y. top_place z ≤ℤ top_place y) zs × PlacesAscend zs
