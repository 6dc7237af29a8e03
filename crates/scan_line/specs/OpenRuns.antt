-- A run that began and didn't end yet, at the last edge of a line: where the tiles on the line's right are taken it
-- goes on, or begins, and where they aren't it ends.
use Rattle.std.specs.Prelude.{◌≡◌, ◌++◌, Bool, true, false, List, [], ◌∷◌, Option, Some, None}
use Rattle.half_grid.specs.declared.plane.Line.{Line}
use Rattle.scan_line.specs.declared.runs.Run.{Run}
use Rattle.scan_line.specs.declared.sums.Windings.{Windings}

-- the run between two lines, with the windings at its leftmost tile
abbrev pub run_between : Line → Line → Windings → Run
run_between left right w = record { left = left; right = right; a = w.a; b = w.b }

abbrev pub ended_at : Line → Run → Run
ended_at line run = record { left = run.left; right = line; a = run.a; b = run.b }

-- the run that is open then
abbrev pub open_after : Line → Windings → Option Run → Bool → Option Run
open_after line w None true = Some (run_between line line w)
open_after line w None false = None
open_after line w (Some run) true = Some run
open_after line w (Some run) false = None

-- the run that ends there
abbrev pub ends_at : Line → Option Run → Bool → List Run
ends_at line None taken = []
ends_at line (Some run) true = []
ends_at line (Some run) false = ended_at line run ∷ []

-- where a run is open, it is the last of the list: the others are done
abbrev pub opened : Option Run → List Run
opened None = []
opened (Some run) = run ∷ []

abbrev pub some_open : Option Run → Bool
some_open None = false
some_open (Some run) = true

pub record IsOpen (runs : List Run) (inside : Bool) (done : List Run) (run : Option Run) : Type 0 where
  pub whole : runs ≡ done ++ opened run
  pub is : inside ≡ some_open run
