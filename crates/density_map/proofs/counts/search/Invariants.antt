use Rattle.std.proofs.Common.{ℕ, ◌-◌, ◌≤◌, ◌<◌, ◌≤ℤ◌, ◌<ℤ◌, length}
use Rattle.density_map.specs.declared.counts.Counted.{Counted}
use Rattle.density_map.specs.Counts.{column_of}
use Rattle.density_map.proofs.counts.search.Given as goal

abbrev pub invariant-loop-low : goal.invariant-loop-low
invariant-loop-low l = record {
  order : l.low ≤ l.high;
  inside : l.high ≤ length l.counts;
  before : (k : ℕ) (d : Counted) → k < l.low → column_of l.counts k d <ℤ l.sought.column;
  after : (k : ℕ) (d : Counted) → l.high ≤ k → k < length l.counts → l.sought.column ≤ℤ column_of l.counts k d;
}

abbrev pub decreases-loop-low : goal.decreases-loop-low
decreases-loop-low l = l.high - l.low
