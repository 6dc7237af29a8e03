-- Shots on their way through windows, from below.
--
-- Some meet a window; those that begin above it come later, by ascending lower end.
use Rattle.std.specs.Prelude.{ℕ, ℤ, ◌+◌, ◌≡◌, ◌≤ℤ◌, Bool, List, [], ◌∷◌, All, int_lt}
use Rattle.half_grid.specs.Trapezoids.{Trapezoid, count_in}
use Rattle.half_grid.specs.Windows.{RowRange}
use Rattle.half_grid.specs.declared.plane.Tile.{Tile}
use Rattle.deck_plan.specs.Plans.{Planned, planned_area}
use Rattle.file_check.specs.Certificates.{AgreesBelow}
use Rattle.file_check.specs.declared.front.Front.{Front}

-- no trapezoid begins below those before it
abbrev pub BottomsAscend : List Trapezoid → Type 0
BottomsAscend [] = Unit {0}
BottomsAscend (z ∷ zs) = All (λ y. z.y0 ≤ℤ y.y0) zs × BottomsAscend zs

-- whether the trapezoid ends above the window's bottom
abbrev pub ends_above : RowRange → Trapezoid → Bool
ends_above window z = int_lt window.y0 z.y1

-- above the Y those that meet a window and those that come later have each tile as often as all shots
pub record IsFrontAt (shots : List Trapezoid) (y : ℤ) (meeting later : List Trapezoid) : Type 0 where
  pub ascend : BottomsAscend later
  pub counts : (t : Tile) → y ≤ℤ t.j → count_in meeting t + count_in later t ≡ count_in shots t

-- The shots have no fault below the Y, for output k of a plan, and are gone through up to it.
pub record IsJudgedTo (p : Planned) (k : ℕ) (shots : List Trapezoid) (y : ℤ) (front : Front) : Type 0 where
  pub passed : IsFrontAt shots y front.meeting.items front.later.now
  pub agrees : AgreesBelow (planned_area p k) shots y

-- these begin below the window's top, and the others at it or above
pub record IsTaken (window : RowRange) (later front rest : List Trapezoid) : Type 0 where
  pub counts : (t : Tile) → count_in front t + count_in rest t ≡ count_in later t
  pub above : All (λ z. window.y1 ≤ℤ z.y0) rest
  pub ascend : BottomsAscend rest
