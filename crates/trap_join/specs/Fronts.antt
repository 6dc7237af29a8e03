-- The front of a stop: the trapezoids that may still grow upward there, from left to right, against the runs of the
-- row above the stop.
--
-- A growing trapezoid goes on in a run with the same two lines, and ends at the stop where there is none. A run goes on
-- from the growing trapezoid with its two lines, and begins one at the stop where there is none.
use Rattle.std.specs.Prelude.{ℤ, pos, ◌-ℤ◌, ◌<ℤ◌, ◌≡◌, ◌⊎◌, Bool, true, false, ◌&&◌, not, if◌then◌else◌, List, [], ◌∷◌, All, map, filter}
use Rattle.std.specs.List.{list_any}
use Rattle.std.specs.Ordering.{int_eq}
use Rattle.half_grid.specs.Rows.{place}
use Rattle.half_grid.specs.Trapezoids.{Trapezoid, trapezoid}
use Rattle.half_grid.specs.declared.plane.Line.{Line}
use Rattle.half_grid.specs.declared.plane.Line.TheVariants.{Upright, Rising, Falling}
use Rattle.scan_line.specs.declared.runs.Run.{Run}
use Rattle.trap_join.specs.declared.front.Growing.{Growing}
use Rattle.trap_join.specs.declared.front.Meeting.{Meeting}
use Rattle.trap_join.specs.declared.front.Meeting.TheVariants.{Ends, Begins, GoesOn}

abbrev pub is_same_line : Line → Line → Bool
is_same_line (Upright c) (Upright d) = int_eq c d
is_same_line (Rising c) (Rising d) = int_eq c d
is_same_line (Falling c) (Falling d) = int_eq c d
is_same_line _ _ = false

-- the growing trapezoid and the run have the same two lines
abbrev pub goes_on : Growing → Run → Bool
goes_on growing run = is_same_line growing.left run.left && is_same_line growing.right run.right

-- each growing trapezoid goes on in the run of its place, and there are as many
abbrev pub all_go_on : List Growing → List Run → Bool
all_go_on [] [] = true
all_go_on [] (run ∷ runs) = false
all_go_on (growing ∷ front) [] = false
all_go_on (growing ∷ front) (run ∷ runs) = goes_on growing run && all_go_on front runs

-- the Y at which the trapezoid of the run began: that of the growing one that goes on in it, else the stop
abbrev pub bottom_of : List Growing → ℤ → Run → ℤ
bottom_of [] y run = y
bottom_of (growing ∷ front) y run = if goes_on growing run then growing.y0 else bottom_of front y run

-- the growing trapezoid of the run, above the stop
abbrev pub grown_into : List Growing → ℤ → Run → Growing
grown_into front y run = record { y0 = bottom_of front y run; left = run.left; right = run.right }

-- the growing trapezoid as if it ended at y
abbrev pub ended_at : ℤ → Growing → Trapezoid
ended_at y growing = trapezoid growing.y0 y growing.left growing.right

-- it goes on in none of the runs
abbrev pub ends_below : List Run → Growing → Bool
ends_below runs growing = not (list_any (goes_on growing) runs)

-- the trapezoids that end at the stop
abbrev pub ended : List Run → ℤ → List Growing → List Trapezoid
ended runs y front = map (ended_at y) (filter (ends_below runs) front)

-- each has a tile in the row, and stands left of all that follow
abbrev pub FrontStandsApart : ℤ → List Growing → Type 0
FrontStandsApart j [] = Unit {0}
FrontStandsApart j (growing ∷ front) = (place growing.left j <ℤ place growing.right j)
    × All (λ next. place growing.right j <ℤ place next.left j) front × FrontStandsApart j front

-- the run or one right of it, in the row above the stop
abbrev pub IsRunFrom : ℤ → Run → Run → Type 0
IsRunFrom y run next = (place next.left y <ℤ place next.right y) × ((next ≡ run) ⊎ (place run.right y <ℤ place next.left y))

-- the growing one or one right of it, in the row below the stop
abbrev pub IsGrowingFrom : ℤ → Growing → Growing → Type 0
IsGrowingFrom y growing next = (place next.left (y -ℤ pos 1) <ℤ place next.right (y -ℤ pos 1))
    × ((next ≡ growing) ⊎ (place growing.right (y -ℤ pos 1) <ℤ place next.left (y -ℤ pos 1)))

-- what comes of the leftmost growing one and the leftmost run: it goes on in no run from this one on, or none from this
-- one on goes on in the run, or it goes on in the run
abbrev pub IsMeeting : ℤ → Growing → Run → Meeting → Type 0
IsMeeting y growing run Ends = (next : Run) → IsRunFrom y run next → goes_on growing next ≡ false
IsMeeting y growing run Begins = (next : Growing) → IsGrowingFrom y growing next → goes_on next run ≡ false
IsMeeting y growing run GoesOn = goes_on growing run ≡ true
