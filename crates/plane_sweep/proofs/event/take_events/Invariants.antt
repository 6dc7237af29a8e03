use Rattle.std.proofs.Common.{◌≡◌, ◌++◌, List, length}
use Rattle.row_lists.specs.declared.event.Event.{Event}
use Rattle.plane_sweep.specs.Bundles.{HasPassed}
use Rattle.plane_sweep.proofs.event.take_events.Given as goal

abbrev pub invariant-loop-event : goal.invariant-loop-event
invariant-loop-event g l = HasPassed l.point.y l.point.x (g.E.EventSource.left l.initial.events) (g.E.EventSource.left l.events) l.initial.bundle l.bundle

abbrev pub decreases-loop-event : goal.decreases-loop-event
decreases-loop-event g l = length (g.E.EventSource.left l.events)
