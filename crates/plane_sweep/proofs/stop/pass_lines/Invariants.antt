use Rattle.std.proofs.Common.{◌≡◌, length}
use Rattle.plane_sweep.specs.Stops.{PassesLinesOn, IsPassedUpTo}
use Rattle.plane_sweep.specs.WayRuns.{PassesRunsOn}
use Rattle.plane_sweep.proofs.stop.pass_lines.Given as goal

abbrev pub invariant-loop-level : goal.invariant-loop-level
invariant-loop-level g l = record {
  on : PassesLinesOn l.level.y l.end l.fn.left.sides l.initial.front.lines l.front.lines l.gap.sides;
  passed : IsPassedUpTo l.level.y l.end l.initial.front.lines.after l.front.lines.after;
  runs : PassesRunsOn (λ a b r. g.F.Fn.post l.fn.rule (a, (b, tt)) r) l.level.y l.end l.fn.left l.initial.front.lines l.initial.front.ended.items
      l.front.lines l.front.ended.items l.gap;
  waiting : l.front.waiting.items ≡ l.initial.front.waiting.items;
}

abbrev pub decreases-loop-level : goal.decreases-loop-level
decreases-loop-level g l = length l.front.lines.after
