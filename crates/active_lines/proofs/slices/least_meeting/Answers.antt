use Rattle.std.proofs.Common.{List, subst}
use Rattle.active_lines.specs.declared.item.ActiveLine.{ActiveLine}
use Rattle.active_lines.proofs.Meeting.{IsLeastBefore, least_more}
use Rattle.active_lines.proofs.slices.least_meeting.Goals as goal

pub loop-line-preserved : goal.loop-line-preserved
loop-line-preserved c =
    let l = c.loop-line in
    let found = subst (λ (xs : List ActiveLine). IsLeastBefore c.args.lines.now xs l.least) c.in-Some.ensures.cases.0 l.invariant in
    rw c.lesser-least.ensures (least_more c.args.lines.now c.in-Some.line.now c.in-Some.rest.now l.least c.meeting_with.result found c.meeting_with.ensures)
