use Rattle.std.proofs.Common.{pos, ◌^◌, ◌+◌, ◌++◌, ◌<ℤ◌, All}
use Rattle.column_sweep.specs.Looking.{IsLookedTo}
use Rattle.column_sweep.specs.Dealing.{RisesPast}
use Rattle.column_sweep.proofs.looking.looked_columns.Given as goal

-- what is left of the last cut is known, and the edges of the rest are those that were carried and those that wait
abbrev pub invariant-loop-cut : goal.invariant-loop-cut
invariant-loop-cut g l = record {
  looked : IsLookedTo (λ a b r. g.F.Fn.post l.fn.rule (a, (b, tt)) r) l.fn.edges.items l.fn.window l.looked.from.x
      (l.looked.edges.items ++ l.later) l.looked.found;
  rises : All (λ c. RisesPast c.x l.later) l.fn.cuts;
  high : l.looked.from.x <ℤ pos (2 ^ 44 + 1);
}
