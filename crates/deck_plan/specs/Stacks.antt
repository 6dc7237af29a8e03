-- Joined lists of rows that lie upon each other.
--
-- Some rows are joined: of their list, some trapezoids end below the rows' top, and the others reach it. The rows from
-- there on are joined by themselves. Where a trapezoid that reaches the top has both lines of one that begins there, it
-- goes on in it: the two are one trapezoid of all rows. Each other one ends where it reached the top, or begins there.
--
-- Each output has a list in each band: `has_lists` of a plan is proved by such lists, row by row, so they are defined
-- here. A crate above computes them, strip by strip.
use Rattle.std.specs.Prelude.{ℤ, ◌≡◌, ◌<ℤ◌, Bool, ◌&&◌, not, if◌then◌else◌, List, [], ◌∷◌, ◌++◌, All, filter}
use Rattle.std.specs.List.{list_any}
use Rattle.std.specs.Ordering.{int_eq}
use Rattle.half_grid.specs.Trapezoids.{Trapezoid, trapezoid, IsShot}
use Rattle.half_grid.specs.Windows.{RowRange}
use Rattle.half_grid.specs.JoinedLists.{IsJoined}
use Rattle.trap_join.specs.Fronts.{is_same_line}

-- the first trapezoid ends where the second begins, and has its lines
abbrev pub goes_on : Trapezoid → Trapezoid → Bool
goes_on z above = int_eq z.y1 above.y0 && (is_same_line z.left above.left && is_same_line z.right above.right)

-- where the trapezoid begins, with what goes on in it
abbrev pub bottom_with : List Trapezoid → Trapezoid → ℤ
bottom_with [] above = above.y0
bottom_with (z ∷ growing) above = if goes_on z above then z.y0 else bottom_with growing above

-- the trapezoid with the rows of the one that goes on in it
abbrev pub lengthened : List Trapezoid → Trapezoid → Trapezoid
lengthened growing above = trapezoid (bottom_with growing above) above.y1 above.left above.right

-- it goes on in none of these
abbrev pub ends_below : List Trapezoid → Trapezoid → Bool
ends_below above z = not (list_any (goes_on z) above)

-- those that go on in none of the trapezoids above
abbrev pub ended : List Trapezoid → List Trapezoid → List Trapezoid
ended above growing = filter (ends_below above) growing

-- The joined list of some rows: those that end below the rows' top, and those that reach it.
pub record IsJoinedUpTo (window : RowRange) (done growing : List Trapezoid) : Type 0 where
  pub shots : All IsShot (done ++ growing)
  pub joined : IsJoined window (done ++ growing)
  pub below : All (λ z. z.y1 <ℤ window.y1) done
  pub reach : All (λ z. z.y1 ≡ window.y1) growing
