use Rattle.std.proofs.Common.{◌≡◌, ◌≤◌, List}
use Rattle.half_grid.specs.Edges.{EdgeParts}
use Rattle.half_grid.specs.Trapezoids.{Trapezoid}
use Rattle.plane_sweep.specs.PlaneSweeps.{HasComeTo, left_in}
use Rattle.plane_sweep.proofs.progress.Progress.take_next.Given as goal

-- nothing was given
abbrev pub invariant-loop-trap : goal.invariant-loop-trap
invariant-loop-trap g l = record {
  given : (edges : List EdgeParts) (given : List Trapezoid)
      → HasComeTo g.E.EventSource.left (λ a b r. g.F.Fn.post l.fn.rule (a, (b, tt)) r) edges l.initial.self given
      → HasComeTo g.E.EventSource.left (λ a b r. g.F.Fn.post l.fn.rule (a, (b, tt)) r) edges l.self given;
  window : l.self.window ≡ l.initial.self.window;
  fewer : left_in l.self ≤ left_in l.initial.self;
}

abbrev pub decreases-loop-trap : goal.decreases-loop-trap
decreases-loop-trap g l = left_in l.self
