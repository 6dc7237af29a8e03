use Rattle.std.proofs.Common.{◌-◌, ◌≤◌, ◌<◌, All, length, take}
use Rattle.active_lines.specs.Points.{IsBefore, EndsNotBefore}
use Rattle.active_lines.specs.Chunked.{lines_of, chunk_at}
use Rattle.active_lines.proofs.looking.chunk_of.Given as goal

abbrev pub invariant-loop-low : goal.invariant-loop-low
invariant-loop-low l = record {
  order : l.low ≤ l.high;
  inside : l.high ≤ length l.chunks;
  before : All (IsBefore l.point.x l.point.y) (lines_of (take l.low l.chunks));
  at : l.high < length l.chunks → EndsNotBefore l.point.x l.point.y (chunk_at l.chunks l.high);
}

abbrev pub decreases-loop-low : goal.decreases-loop-low
decreases-loop-low l = l.high - l.low
