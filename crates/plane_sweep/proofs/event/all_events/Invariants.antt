use Rattle.std.proofs.Common.{◌≡◌, take}
use Rattle.row_lists.specs.Events.{events_of}
use Rattle.plane_sweep.proofs.event.all_events.Given as goal

abbrev pub invariant-loop-edge : goal.invariant-loop-edge
invariant-loop-edge l = l.events.items ≡ events_of (take l.edge-index l.edges)
