use Rattle.std.proofs.Common.{pos, negsuc, ◌^◌, ◌+◌, ◌++◌, ◌≤ℤ◌, ◌<ℤ◌, All}
use Rattle.trap_join.specs.Joins.{IsTakenIn}
use Rattle.column_sweep.specs.Sewing.{AreSweptTo, AreLeft}
use Rattle.column_sweep.specs.Dealing.{RisesPast}
use Rattle.column_sweep.proofs.columns.swept_columns.Given as goal

-- the area is swept up to the last cut, and the edges of the rest are those that were carried and those that wait
abbrev pub invariant-loop-cut : goal.invariant-loop-cut
invariant-loop-cut g l = record {
  left : AreLeft l.progress.from.x l.fn.edges.items (l.progress.edges.items ++ l.later);
  swept : AreSweptTo (IsTakenIn (λ a b r. g.F.Fn.post l.fn.rule (a, (b, tt)) r) l.fn.edges.items l.fn.window)
      l.fn.window (negsuc (2 ^ 44)) l.progress.from.x l.progress.sewn.finals.items l.progress.sewn.seams.items;
  rises : All (λ c. RisesPast c.x l.later) l.fn.cuts;
  low : negsuc (2 ^ 44) ≤ℤ l.progress.from.x;
  high : l.progress.from.x <ℤ pos (2 ^ 44 + 1);
}
