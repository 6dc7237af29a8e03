use Rattle.std.proofs.Common.{◌≡◌, ℕ, ◌+◌, ◌≤◌, ◌<◌, ◌-◌, Some, length, slice_get}
use Rattle.layout_model.specs.declared.shape_lists.Run.{Run}
use Rattle.layout_model.proofs.shape_lists.rank.Given as goal

abbrev pub invariant-loop-low : goal.invariant-loop-low
invariant-loop-low l = record {
  order : l.low ≤ l.high;
  within : l.high ≤ length l.runs;
  last : (j : ℕ) (run : Run) → j + 1 ≡ l.low → slice_get l.runs j ≡ Some run → run.before ≤ l.k;
  next : (run : Run) → slice_get l.runs l.high ≡ Some run → l.k < run.before;
}

abbrev pub decreases-loop-low : goal.decreases-loop-low
decreases-loop-low l = l.high - l.low
