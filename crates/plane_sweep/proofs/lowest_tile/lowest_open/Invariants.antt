use Rattle.std.proofs.Common.{ℤ, ◌≡◌, ◌++◌, List, All, length}
use Rattle.half_grid.specs.Trapezoids.{Trapezoid, IsShot}
use Rattle.active_lines.specs.ActiveLists.{items}
use Rattle.plane_sweep.specs.Lowest.{IsFirstOfAll, open_up_to}
use Rattle.plane_sweep.proofs.lowest_tile.lowest_open.Given as goal

-- what was found is the lowest of all before the place
abbrev pub invariant-loop-line : goal.invariant-loop-line
invariant-loop-line l = record {
  same : items l.lines ≡ items l.initial.lines;
  lowest : (traps : List Trapezoid) (top : ℤ) → IsFirstOfAll traps l.fn.found
      → (done : List Trapezoid) × (traps ++ open_up_to top (items l.initial.lines) ≡ done ++ open_up_to top l.lines.after) × IsFirstOfAll done l.look.found;
  shots : (top : ℤ) × All IsShot (open_up_to top l.lines.after);
}

abbrev pub decreases-loop-line : goal.decreases-loop-line
decreases-loop-line l = length l.lines.after
