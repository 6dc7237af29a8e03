use Rattle.plane_sweep.proofs.WayLemmas.{meeting_within}
use Rattle.plane_sweep.proofs.stop.next_meeting.Goals as goal

pub point_of-requires-clause-x : goal.point_of-requires-clause-x
point_of-requires-clause-x c = meeting_within c.args.level.y _ c.args.lines.now.after c.in-Some.line c.requires.within c.in-Some.ensures.some
