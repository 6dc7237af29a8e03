use Rattle.std.proofs.Common.{◌≡◌, ◌++◌, length}
use Rattle.row_lists.specs.Halfway.{PassAt}
use Rattle.plane_sweep.proofs.point.take_through.Given as goal

abbrev pub invariant-loop-line : goal.invariant-loop-line
invariant-loop-line l = record {
  before : l.lines.before ≡ l.initial.lines.before;
  split : l.initial.lines.after ≡ l.taken.items ++ l.lines.after;
  at : PassAt l.point.y l.point.x l.taken.items;
}

abbrev pub decreases-loop-line : goal.decreases-loop-line
decreases-loop-line l = length l.lines.after
