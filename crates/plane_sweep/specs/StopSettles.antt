-- What a stop does to the runs.
use Rattle.std.specs.Prelude.{ℤ, ◌≡◌, Bool, false, List, ◌++◌, All}
use Rattle.half_grid.specs.Trapezoids.{Trapezoid, IsShot}
use Rattle.trap_join.specs.Fronts.{ended_at}
use Rattle.active_lines.specs.declared.item.ActiveLine.{ActiveLine}
use Rattle.active_lines.specs.declared.item.Windings.{Windings}
use Rattle.row_lists.specs.RowLists.{no_windings}
use Rattle.row_lists.specs.RowRuns.{last_windings, runs_of}
use Rattle.plane_sweep.specs.StopRuns.{growing_of, AreOpened}
use Rattle.plane_sweep.specs.RuleTests.{IsTest}
use Rattle.plane_sweep.specs.Settled.{IsSettled}

-- What a stop does to the runs: of what grew up to it, all that doesn't go on waits to be given, and the rest is open at the
-- lines above.
abbrev pub SettlesStop : (ℤ → ℤ → Bool → Type 0) → ℤ → List ActiveLine → List Trapezoid → List ActiveLine → List Trapezoid → Type 0
SettlesStop post y old given new given1 =
    (takes : Windings → Bool) → IsTest post takes → takes no_windings ≡ false → takes (last_windings no_windings old) ≡ false
    → takes (last_windings no_windings new) ≡ false → AreOpened takes false old → All (λ g. IsShot (ended_at y g)) (growing_of old)
    → (done : List Trapezoid) × (given1 ≡ given ++ done) × IsSettled y (growing_of old) (runs_of takes false new) (growing_of new) done

-- the same, where just this ended at the stop
abbrev pub SettlesRows : (ℤ → ℤ → Bool → Type 0) → ℤ → List ActiveLine → List ActiveLine → List Trapezoid → Type 0
SettlesRows post y old new done =
    (takes : Windings → Bool) → IsTest post takes → takes no_windings ≡ false → takes (last_windings no_windings old) ≡ false
    → takes (last_windings no_windings new) ≡ false → AreOpened takes false old → All (λ g. IsShot (ended_at y g)) (growing_of old)
    → IsSettled y (growing_of old) (runs_of takes false new) (growing_of new) done
