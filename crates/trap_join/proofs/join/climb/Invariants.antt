use Rattle.std.proofs.Common.{◌≡◌, ◌≤◌, List}
use Rattle.half_grid.specs.Trapezoids.{Trapezoid}
use Rattle.trap_join.specs.Joins.{IsFrontOf, TopIsKnown, left_in}
use Rattle.trap_join.proofs.join.climb.Given as goal

-- nothing was given
abbrev pub invariant-loop-scan : goal.invariant-loop-scan
invariant-loop-scan g l = record {
  rule : l.scan.rule ≡ l.initial.scan.rule;
  edges : l.scan.edges ≡ l.initial.scan.edges;
  window : l.scan.window ≡ l.initial.scan.window;
  joined : (given : List Trapezoid)
      → IsFrontOf (λ a b r. g.F.Fn.post l.initial.scan.rule (a, (b, tt)) r) l.initial.scan l.initial.front given
      → IsFrontOf (λ a b r. g.F.Fn.post l.initial.scan.rule (a, (b, tt)) r) l.scan l.front given;
  top : TopIsKnown l.front l.scan.y;
  fewer : left_in l.scan l.front ≤ left_in l.initial.scan l.initial.front;
}

abbrev pub decreases-loop-scan : goal.decreases-loop-scan
decreases-loop-scan g l = left_in l.scan l.front
