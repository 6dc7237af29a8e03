use Rattle.std.proofs.Common.{List, [], ◌+◌, ◌≡◌, Bool, length}
use Rattle.half_grid.specs.Edges.{EdgeParts}
use Rattle.active_lines.specs.ActiveLists.{items}
use Rattle.active_lines.specs.declared.item.Windings.{Windings}
use Rattle.plane_sweep.specs.RuleTests.{IsTest}
use Rattle.plane_sweep.specs.Stops.{IsBelowStop, IsOnWay}
use Rattle.plane_sweep.specs.WayRuns.{MayPass, IsOnWayWith}
use Rattle.plane_sweep.proofs.stop.pass_points.Given as goal

abbrev pub invariant-loop-right : goal.invariant-loop-right
invariant-loop-right g l = record {
  way : (edges : List EdgeParts) → IsBelowStop edges l.level.y (items l.fn.front.lines) (g.E.EventSource.left l.fn.events)
      → IsOnWay edges l.level.y l.meeting l.gap.sides l.front.lines (g.E.EventSource.left l.events);
  runs : l.fn.front.ended.items ≡ [] → (takes : Windings → Bool) (edges : List EdgeParts)
      → IsTest (λ a b r. g.F.Fn.post l.fn.rule (a, (b, tt)) r) takes → MayPass takes l.level.y (items l.fn.front.lines)
      → IsBelowStop edges l.level.y (items l.fn.front.lines) (g.E.EventSource.left l.fn.events)
      → IsOnWayWith takes edges l.level.y l.meeting (items l.fn.front.lines) l.gap l.front.lines (g.E.EventSource.left l.events) l.front.ended.items;
  waiting : l.front.waiting.items ≡ l.fn.front.waiting.items;
}

abbrev pub decreases-loop-right : goal.decreases-loop-right
decreases-loop-right g l = length l.front.lines.after + length (g.E.EventSource.left l.events)
