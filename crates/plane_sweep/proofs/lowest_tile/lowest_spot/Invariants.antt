use Rattle.std.proofs.Common.{◌≡◌, List, []}
use Rattle.half_grid.specs.Edges.{EdgeParts}
use Rattle.plane_sweep.specs.PlaneSweeps.{HasComeTo, left_in}
use Rattle.plane_sweep.proofs.lowest_tile.lowest_spot.Given as goal

-- nothing was found so far
abbrev pub invariant-loop-spot : goal.invariant-loop-spot
invariant-loop-spot g l = record {
  come : (edges : List EdgeParts) → HasComeTo (λ events. events) (λ a b r. g.F.Fn.post l.fn.rule (a, (b, tt)) r) edges l.initial.progress []
      → HasComeTo (λ events. events) (λ a b r. g.F.Fn.post l.fn.rule (a, (b, tt)) r) edges l.progress [];
  window : l.progress.window ≡ l.initial.progress.window;
}

abbrev pub decreases-loop-spot : goal.decreases-loop-spot
decreases-loop-spot g l = left_in l.progress
