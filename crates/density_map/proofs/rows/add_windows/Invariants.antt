use Rattle.std.proofs.Common.{vec_len, vec_capacity, ◌+◌, ◌≤◌, ◌^◌, pos, neg_ℤ, ◌-ℤ◌, ◌*ℤ◌, ◌≤ℤ◌}
use Rattle.std.specs.Int.{int_gap}
use Rattle.density_map.specs.Counts.{AreCounts}
use Rattle.density_map.specs.Rows.{AreColumnsOf}
use Rattle.density_map.proofs.AddLemmas.{IsAddedBefore}
use Rattle.density_map.proofs.rows.add_windows.Given as goal

abbrev pub invariant-loop-columns : goal.invariant-loop-columns
invariant-loop-columns l = record {
  counts : AreCounts l.counts.items;
  added : IsAddedBefore l.strip.size l.strip.row l.trap l.initial.counts.items l.counts.items l.columns.first;
  columns : AreColumnsOf l.strip.size l.trap l.initial.columns.first l.columns.end;
  first : neg_ℤ (pos (2 ^ 45)) ≤ℤ l.columns.first;
  end : l.columns.end ≤ℤ pos (2 ^ 46);
  low : neg_ℤ (pos (2 ^ 45)) ≤ℤ (l.columns.first *ℤ l.strip.size);
  high : ((l.columns.end -ℤ pos 1) *ℤ l.strip.size) ≤ℤ pos (2 ^ 44);
  room : vec_len l.counts + int_gap l.columns.first l.columns.end ≤ vec_capacity l.counts;
}

abbrev pub decreases-loop-columns : goal.decreases-loop-columns
decreases-loop-columns l = int_gap l.columns.first l.columns.end
