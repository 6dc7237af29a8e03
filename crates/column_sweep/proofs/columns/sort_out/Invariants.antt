use Rattle.std.proofs.Common.{◌≡◌, List}
use Rattle.half_grid.specs.Trapezoids.{Trapezoid}
use Rattle.trap_join.specs.Joins.{HasGiven, left_to_give}
use Rattle.column_sweep.specs.Sewing.{AreSortedBehind}
use Rattle.column_sweep.proofs.columns.sort_out.Given as goal

-- the join has given some trapezoids, which were put after those before
abbrev pub invariant-loop-join : goal.invariant-loop-join
invariant-loop-join g l = record {
  given : (traps : List Trapezoid)
      × (HasGiven (λ a b r. g.F.Fn.post l.fn.scan.rule (a, (b, tt)) r) l.join traps
      × AreSortedBehind l.column.from.x l.column.to.x traps l.initial.sewn.finals.items l.initial.sewn.seams.items
      l.sewn.finals.items l.sewn.seams.items);
  rule : l.join.rule ≡ l.fn.scan.rule;
  edges : l.join.edges ≡ l.fn.scan.edges;
  window : l.join.window ≡ l.fn.scan.window;
}

abbrev pub decreases-loop-join : goal.decreases-loop-join
decreases-loop-join g l = left_to_give l.join
