use Rattle.std.proofs.Common.{List, refl, ap, sym, subst, ◌∙◌}
use Rattle.half_grid.specs.Reach.{IsWithinReach}
use Rattle.active_lines.specs.ActiveLists.{ActiveList, items}
use Rattle.active_lines.specs.declared.item.ActiveLine.{ActiveLine}
use Rattle.plane_sweep.specs.Stops.{AreWithin, IsBelowStop}
use Rattle.plane_sweep.specs.WayRuns.{MayPass, IsOnWayWith}
use Rattle.plane_sweep.proofs.StopWith.{begin_with, way_on_with, point_with, stop_with}
use Rattle.plane_sweep.proofs.WholeStop.{begin_within, begin_way, way_within, at_level, x_reach, ascends1, came_at, within3, way_on, less, way_done}
use Rattle.plane_sweep.proofs.stop.pass_points.Goals as goal

pub first_meeting-meeting-requires-clause-within : goal.first_meeting-meeting-requires-clause-within
first_meeting-meeting-requires-clause-within g c =
    subst (λ (list : ActiveList). AreWithin c.args.level.y list.after) (sym c.rewind.ensures)
    (begin_within c.requires.below.0 c.args.level.y (items c.args.front.now.lines) (g.E.EventSource.left c.args.events.now) c.requires.below.1)

pub loop-right-init : goal.loop-right-init
loop-right-init g c = record {
  way = λ edges below.
      begin_way edges c.args.level.y c.first_meeting-meeting.result c.none-gap.result.sides c.rewind.new.self
      (g.E.EventSource.left c.args.events.now) (ap (λ (list : ActiveList). list.before) c.rewind.ensures)
      (subst (λ (ls : List ActiveLine). IsBelowStop edges c.args.level.y ls (g.E.EventSource.left c.args.events.now)) (sym (ap items c.rewind.ensures)) below)
      c.first_meeting-meeting.ensures c.none-gap.ensures.below c.none-gap.ensures.above;
  runs = λ empty takes edges test may below.
      subst (λ (ls : List ActiveLine). IsOnWayWith takes edges c.args.level.y c.first_meeting-meeting.result ls c.none-gap.result c.rewind.new.self
      (g.E.EventSource.left c.args.events.now) c.args.front.now.ended.items) (ap items c.rewind.ensures)
      (begin_with takes edges c.args.level.y c.first_meeting-meeting.result c.none-gap.result c.rewind.new.self
      (g.E.EventSource.left c.args.events.now) c.args.front.now.ended.items may.nothing (ap (λ (list : ActiveList). list.before) c.rewind.ensures)
      (subst (λ (ls : List ActiveLine). IsBelowStop edges c.args.level.y ls (g.E.EventSource.left c.args.events.now)) (sym (ap items c.rewind.ensures)) below)
      c.first_meeting-meeting.ensures c.none-gap.ensures.below c.none-gap.ensures.above c.none-gap.ensures.runs empty);
  waiting = refl;
}

pub pass_way-requires-clause-within : goal.pass_way-requires-clause-within
pass_way-requires-clause-within g c =
    let edges = c.requires.below.0 in
    let y = c.args.level.y in
    let l = c.loop-right in
    let events = g.E.EventSource.left l.events in
    let way = l.invariant.way edges c.requires.below.1 in
    way_within edges y l.meeting l.gap.sides l.front.lines events way c.next_event.result c.next_event.ensures

pub returns-in_default-clause-above : goal.returns-in_default-clause-above
returns-in_default-clause-above g c = λ edges below.
    let y = c.args.level.y in
    let l = c.loop-right in
    let events = g.E.EventSource.left l.events in
    way_done edges y l.meeting l.gap.sides l.front.lines events
    (l.invariant.way edges below) c.next_event.result c.next_event.ensures c.nearer-next.result c.nearer-next.ensures
    c.in_default.is
    c.in_ok-right.right.sides c.pass_way.new.front.lines c.in_ok-right.ensures.on c.in_ok-right.ensures.ended

pub returns-in_default-clause-settles : goal.returns-in_default-clause-settles
returns-in_default-clause-settles g c = λ empty takes test nothing shut shut_above opened shots.
    let y = c.args.level.y in
    let l = c.loop-right in
    let events = g.E.EventSource.left l.events in
    let edges = c.requires.below.0 in
    let may : MayPass takes y (items c.args.front.now.lines) = record { nothing = nothing; shut = shut; opened = opened; shots = shots } in
    stop_with (λ a b r. g.F.Fn.post c.args.rule.now (a, (b, tt)) r) takes edges y l.meeting (items c.args.front.now.lines) l.gap c.in_ok-right.right
    l.front.lines c.pass_way.new.front.lines events l.front.ended.items c.pass_way.new.front.ended.items
    (l.invariant.runs empty takes edges test may c.requires.below.1) c.next_event.result c.next_event.ensures c.nearer-next.result c.nearer-next.ensures
    c.in_default.is c.in_ok-right.ensures.runs c.in_ok-right.ensures.ended c.in_ok-right.ensures.settled test may shut_above

pub come_to-left-requires-clause-y : goal.come_to-left-requires-clause-y
come_to-left-requires-clause-y g c =
    let edges = c.requires.below.0 in
    let y = c.args.level.y in
    let l = c.loop-right in
    let events = g.E.EventSource.left l.events in
    let way = l.invariant.way edges c.requires.below.1 in
    subst IsWithinReach (sym
    (at_level edges y l.meeting l.gap.sides l.front.lines events way c.next_event.result c.next_event.ensures
    c.nearer-next.result c.nearer-next.ensures c.in-Some.point c.in-Some.is)) c.requires.y

pub come_to-left-requires-clause-ascend : goal.come_to-left-requires-clause-ascend
come_to-left-requires-clause-ascend g c =
    let edges = c.requires.below.0 in
    let y = c.args.level.y in
    let l = c.loop-right in
    let events = g.E.EventSource.left l.events in
    let way = l.invariant.way edges c.requires.below.1 in
    ascends1 edges y l.meeting l.gap.sides l.front.lines events way c.next_event.result c.next_event.ensures
    c.nearer-next.result c.nearer-next.ensures c.in-Some.point c.in-Some.is
    c.in_ok-right.right.sides c.pass_way.new.front.lines c.in_ok-right.ensures.on c.in_ok-right.ensures.passed c.in_ok-right.ensures.ended

pub pass_point-requires-clause-point : goal.pass_point-requires-clause-point
pass_point-requires-clause-point g c =
    let edges = c.requires.below.0 in
    let y = c.args.level.y in
    let l = c.loop-right in
    let events = g.E.EventSource.left l.events in
    let way = l.invariant.way edges c.requires.below.1 in
    record {
      x = x_reach edges y l.meeting l.gap.sides l.front.lines events way c.next_event.result c.next_event.ensures
          c.nearer-next.result c.nearer-next.ensures c.in-Some.point c.in-Some.is;
      y = subst IsWithinReach
          (sym (at_level edges y l.meeting l.gap.sides l.front.lines events way c.next_event.result c.next_event.ensures
          c.nearer-next.result c.nearer-next.ensures c.in-Some.point c.in-Some.is)) c.requires.y;
    }

pub pass_point-requires-clause-is_at : goal.pass_point-requires-clause-is_at
pass_point-requires-clause-is_at g c =
    let edges = c.requires.below.0 in
    let y = c.args.level.y in
    let l = c.loop-right in
    let events = g.E.EventSource.left l.events in
    let way = l.invariant.way edges c.requires.below.1 in (
      edges,
      came_at edges y l.meeting l.gap.sides l.front.lines events way c.next_event.result c.next_event.ensures
          c.nearer-next.result c.nearer-next.ensures c.in-Some.point c.in-Some.is
          c.in_ok-right.right.sides c.pass_way.new.front.lines c.in_ok-right.ensures.on c.in_ok-right.ensures.passed c.in_ok-right.ensures.ended
          c.come_to-left.result.sides c.come_to-left.new.lines c.come_to-left.ensures.sides,
    )

pub meeting_after-meeting-requires-clause-y : goal.meeting_after-meeting-requires-clause-y
meeting_after-meeting-requires-clause-y g c =
    let edges = c.requires.below.0 in
    let y = c.args.level.y in
    let l = c.loop-right in
    let events = g.E.EventSource.left l.events in
    let way = l.invariant.way edges c.requires.below.1 in
    subst IsWithinReach (sym
    (at_level edges y l.meeting l.gap.sides l.front.lines events way c.next_event.result c.next_event.ensures
    c.nearer-next.result c.nearer-next.ensures c.in-Some.point c.in-Some.is)) c.requires.y

pub meeting_after-meeting-requires-clause-within : goal.meeting_after-meeting-requires-clause-within
meeting_after-meeting-requires-clause-within g c =
    let edges = c.requires.below.0 in
    let y = c.args.level.y in
    let l = c.loop-right in
    let events = g.E.EventSource.left l.events in
    let way = l.invariant.way edges c.requires.below.1 in
    let came = came_at edges y l.meeting l.gap.sides l.front.lines events way c.next_event.result c.next_event.ensures
    c.nearer-next.result c.nearer-next.ensures c.in-Some.point c.in-Some.is
    c.in_ok-right.right.sides c.pass_way.new.front.lines c.in_ok-right.ensures.on c.in_ok-right.ensures.passed c.in_ok-right.ensures.ended
    c.come_to-left.result.sides c.come_to-left.new.lines c.come_to-left.ensures.sides in
    within3 edges y l.meeting l.gap.sides l.front.lines events way c.next_event.result c.next_event.ensures
    c.nearer-next.result c.nearer-next.ensures c.in-Some.point c.in-Some.is
    c.in_ok-right.right.sides c.pass_way.new.front.lines c.in_ok-right.ensures.on c.in_ok-right.ensures.passed c.in_ok-right.ensures.ended
    c.come_to-left.result.sides c.come_to-left.new.lines c.come_to-left.ensures.sides
    c.in_ok-gap.gap.sides c.pass_point.new.front.lines (g.E.EventSource.left c.pass_point.new.events)
    (c.in_ok-gap.ensures.at edges came) c.in_ok-gap.ensures.passes c.in_ok-gap.ensures.events

pub loop-right-preserved : goal.loop-right-preserved
loop-right-preserved g c = record {
  way = λ edges below.
      (
      let y = c.args.level.y in
      let l = c.loop-right in
      let events = g.E.EventSource.left l.events in
      let way = l.invariant.way edges below in
      let came = came_at edges y l.meeting l.gap.sides l.front.lines events way c.next_event.result c.next_event.ensures
      c.nearer-next.result c.nearer-next.ensures c.in-Some.point c.in-Some.is
      c.in_ok-right.right.sides c.pass_way.new.front.lines c.in_ok-right.ensures.on c.in_ok-right.ensures.passed c.in_ok-right.ensures.ended
      c.come_to-left.result.sides c.come_to-left.new.lines c.come_to-left.ensures.sides in
      way_on edges y l.meeting l.gap.sides l.front.lines events way c.next_event.result c.next_event.ensures
      c.nearer-next.result c.nearer-next.ensures c.in-Some.point c.in-Some.is
      c.in_ok-right.right.sides c.pass_way.new.front.lines c.in_ok-right.ensures.on c.in_ok-right.ensures.passed c.in_ok-right.ensures.ended
      c.come_to-left.result.sides c.come_to-left.new.lines c.come_to-left.ensures.sides
      c.in_ok-gap.gap.sides c.pass_point.new.front.lines (g.E.EventSource.left c.pass_point.new.events)
      (c.in_ok-gap.ensures.at edges came) c.in_ok-gap.ensures.passes c.in_ok-gap.ensures.events
      c.meeting_after-meeting.result c.meeting_after-meeting.ensures);
  runs = λ empty takes edges test may below.
      (
      let y = c.args.level.y in
      let l = c.loop-right in
      let events = g.E.EventSource.left l.events in
      let way = l.invariant.way edges below in
      let n = c.in-Some.point in
      let at_y = at_level edges y l.meeting l.gap.sides l.front.lines events way c.next_event.result c.next_event.ensures
      c.nearer-next.result c.nearer-next.ensures n c.in-Some.is in
      let came = came_at edges y l.meeting l.gap.sides l.front.lines events way c.next_event.result c.next_event.ensures
      c.nearer-next.result c.nearer-next.ensures n c.in-Some.is
      c.in_ok-right.right.sides c.pass_way.new.front.lines c.in_ok-right.ensures.on c.in_ok-right.ensures.passed c.in_ok-right.ensures.ended
      c.come_to-left.result.sides c.come_to-left.new.lines c.come_to-left.ensures.sides in
      let over = c.in_ok-gap.ensures.at edges came in
      let next = way_on edges y l.meeting l.gap.sides l.front.lines events way c.next_event.result c.next_event.ensures
      c.nearer-next.result c.nearer-next.ensures n c.in-Some.is
      c.in_ok-right.right.sides c.pass_way.new.front.lines c.in_ok-right.ensures.on c.in_ok-right.ensures.passed c.in_ok-right.ensures.ended
      c.come_to-left.result.sides c.come_to-left.new.lines c.come_to-left.ensures.sides
      c.in_ok-gap.gap.sides c.pass_point.new.front.lines (g.E.EventSource.left c.pass_point.new.events)
      over c.in_ok-gap.ensures.passes c.in_ok-gap.ensures.events
      c.meeting_after-meeting.result c.meeting_after-meeting.ensures in
      way_on_with takes edges y c.meeting_after-meeting.result (items c.args.front.now.lines) n c.in_ok-gap.gap c.pass_point.new.front.lines
      (g.E.EventSource.left c.pass_point.new.events) c.pass_point.new.front.ended.items at_y over next.next
      (point_with takes edges y l.meeting (items c.args.front.now.lines) l.gap l.front.lines events l.front.ended.items
      (l.invariant.runs empty takes edges test may below) c.next_event.result c.next_event.ensures
      (λ a b r. g.F.Fn.post c.args.rule.now (a, (b, tt)) r) c.nearer-next.result c.nearer-next.ensures n c.in-Some.is at_y
      c.in_ok-right.right c.come_to-left.result c.in_ok-gap.gap c.pass_way.new.front.lines c.come_to-left.new.lines c.pass_point.new.front.lines
      c.pass_way.new.front.ended.items c.pass_point.new.front.ended.items c.in_ok-right.ensures.runs c.in_ok-right.ensures.ended
      c.in_ok-right.ensures.settled c.come_to-left.ensures.runs came c.in_ok-gap.ensures.runs test may));
  waiting = c.in_ok-gap.ensures.waiting ∙ (c.in_ok-right.ensures.waiting ∙ c.loop-right.invariant.waiting);
}

pub loop-right-smaller : goal.loop-right-smaller
loop-right-smaller g c =
    let edges = c.requires.below.0 in
    let y = c.args.level.y in
    let l = c.loop-right in
    let events = g.E.EventSource.left l.events in
    let way = l.invariant.way edges c.requires.below.1 in
    let came = came_at edges y l.meeting l.gap.sides l.front.lines events way c.next_event.result c.next_event.ensures
    c.nearer-next.result c.nearer-next.ensures c.in-Some.point c.in-Some.is
    c.in_ok-right.right.sides c.pass_way.new.front.lines c.in_ok-right.ensures.on c.in_ok-right.ensures.passed c.in_ok-right.ensures.ended
    c.come_to-left.result.sides c.come_to-left.new.lines c.come_to-left.ensures.sides in
    less edges y l.meeting l.gap.sides l.front.lines events way c.next_event.result c.next_event.ensures
    c.nearer-next.result c.nearer-next.ensures c.in-Some.point c.in-Some.is
    c.in_ok-right.right.sides c.pass_way.new.front.lines c.in_ok-right.ensures.on c.in_ok-right.ensures.passed c.in_ok-right.ensures.ended
    c.come_to-left.result.sides c.come_to-left.new.lines c.come_to-left.ensures.sides
    c.in_ok-gap.gap.sides c.pass_point.new.front.lines (g.E.EventSource.left c.pass_point.new.events)
    (c.in_ok-gap.ensures.at edges came) c.in_ok-gap.ensures.passes c.in_ok-gap.ensures.events
