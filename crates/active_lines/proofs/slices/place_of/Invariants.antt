use Rattle.std.proofs.Common.{◌-◌, ◌≤◌, All, length, take, drop}
use Rattle.active_lines.specs.Points.{IsBefore, IsNotBefore}
use Rattle.active_lines.proofs.slices.place_of.Given as goal

abbrev pub invariant-loop-low : goal.invariant-loop-low
invariant-loop-low l = record {
  order : l.low ≤ l.high;
  inside : l.high ≤ length l.lines;
  before : All (IsBefore l.point.x l.point.y) (take l.low l.lines);
  after : All (IsNotBefore l.point.x l.point.y) (drop l.high l.lines);
}

abbrev pub decreases-loop-low : goal.decreases-loop-low
decreases-loop-low l = l.high - l.low
