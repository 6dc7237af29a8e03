use Rattle.std.proofs.Common.{◌≡◌, ap, sym, subst, ◌∙◌, length, drop, List, rules}
use Rattle.row_lists.specs.declared.event.Event.{Event}
use Rattle.plane_sweep.specs.Bundles.{HasPassed}
use Rattle.plane_sweep.proofs.BundleLemmas.{none_passed, event_passed}
use Rattle.plane_sweep.proofs.event.take_events.Goals as goal

pub loop-event-init : goal.loop-event-init
loop-event-init g c = none_passed c.args.point.y c.args.point.x (g.E.EventSource.left c.args.events.now) c.args.bundle

pub loop-event-preserved : goal.loop-event-preserved
loop-event-preserved g c =
    let at = c.is_at.ensures.yes c.if-not-is_at.false in
    event_passed c.args.point.y c.args.point.x (g.E.EventSource.left c.args.events.now)
    (g.E.EventSource.left c.loop-event.events) (g.E.EventSource.left c.step.new.self) c.in-Some.event
    c.args.bundle c.loop-event.bundle c.in_ok-bundle.bundle c.change_of.result c.loop-event.invariant
    (sym c.in-Some.ensures) at.0 at.1 c.change_of.ensures c.in_ok-bundle.ensures c.in_ok-step.ensures
