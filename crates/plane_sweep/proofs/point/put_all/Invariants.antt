use Rattle.std.proofs.Common.{◌≡◌, ◌++◌, take}
use Rattle.plane_sweep.proofs.point.put_all.Given as goal

abbrev pub invariant-loop-line : goal.invariant-loop-line
invariant-loop-line l = record {
  before : l.lines.before ≡ l.initial.lines.before ++ take l.line-index l.put;
  after : l.lines.after ≡ l.initial.lines.after;
}
