use Rattle.std.proofs.Common.{◌≡◌}
use Rattle.plane_sweep.specs.PlaneSweeps.{HasGiven, left_to_give}
use Rattle.plane_sweep.proofs.sweep.swept.Given as goal

-- the sweep has given what was taken
abbrev pub invariant-loop-traps : goal.invariant-loop-traps
invariant-loop-traps g l = record {
  given : HasGiven (λ a b r. g.F.Fn.post l.fn.rule (a, (b, tt)) r) l.fn.edges.items l.sweep l.traps.items;
  rule : l.sweep.rule ≡ l.fn.rule;
  window : l.sweep.window ≡ l.fn.window;
}

abbrev pub decreases-loop-traps : goal.decreases-loop-traps
decreases-loop-traps g l = left_to_give l.sweep
