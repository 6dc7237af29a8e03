-- What is settled of a stop: of the trapezoids that grow up to it some go on in runs of the row above, and the others end.
--
-- Going over a stop from left to right settles growing trapezoids and runs one after another: a growing one ends, or a run
-- begins one, or it goes on in a run.
use Rattle.std.specs.Prelude.{ℤ, ◌≡◌, true, false, List, [], ◌∷◌, ◌++◌, map}
use Rattle.std.specs.List.{Contains}
use Rattle.half_grid.specs.Trapezoids.{Trapezoid}
use Rattle.scan_line.specs.declared.runs.Run.{Run}
use Rattle.trap_join.specs.declared.front.Growing.{Growing}
use Rattle.trap_join.specs.Fronts.{goes_on, grown_into, ended_at, ended}

-- these are settled: what grows in the runs, and what ended
pub record IsSettled (y : ℤ) (front : List Growing) (runs : List Run) (fresh : List Growing) (done : List Trapezoid) : Type 0 where
  pub grows : fresh ≡ map (grown_into front y) runs
  pub ends : done ≡ ended runs y front

-- none of the growing ones goes on in the run
abbrev pub IsNew : List Growing → Run → Type 0
IsNew front r = (g : Growing) → Contains front g → goes_on g r ≡ false

-- the growing one goes on in none of the runs
abbrev pub IsOver : List Run → Growing → Type 0
IsOver runs g = (r : Run) → Contains runs r → goes_on g r ≡ false

abbrev pub NothingSettled : Type 0
NothingSettled = (y : ℤ) → IsSettled y [] [] [] []

abbrev pub OneEnds : Type 0
OneEnds = (y : ℤ) (front : List Growing) (runs : List Run) (fresh : List Growing) (done : List Trapezoid) (g : Growing)
    → IsSettled y front runs fresh done → IsOver runs g → IsSettled y (front ++ g ∷ []) runs fresh (done ++ ended_at y g ∷ [])

abbrev pub OneBegins : Type 0
OneBegins = (y : ℤ) (front : List Growing) (runs : List Run) (fresh : List Growing) (done : List Trapezoid) (r : Run)
    → IsSettled y front runs fresh done → IsNew front r → IsSettled y front (runs ++ r ∷ []) (fresh ++ grown_into [] y r ∷ []) done

abbrev pub OneGoesOn : Type 0
OneGoesOn = (y : ℤ) (front : List Growing) (runs : List Run) (fresh : List Growing) (done : List Trapezoid) (g : Growing) (r : Run)
    → IsSettled y front runs fresh done → goes_on g r ≡ true → IsOver runs g → IsNew front r
    → IsSettled y (front ++ g ∷ []) (runs ++ r ∷ []) (fresh ++ g ∷ []) done
