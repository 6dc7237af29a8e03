use Rattle.std.proofs.Common.{List, subst}
use Rattle.active_lines.specs.declared.item.ActiveLine.{ActiveLine}
use Rattle.active_lines.proofs.Meeting.{IsNoneBefore, none_more, first_here, seam_at}
use Rattle.active_lines.proofs.slices.first_meeting.Goals as goal

pub returns-then-is_at-clause-some : goal.returns-then-is_at-clause-some
returns-then-is_at-clause-some c =
    let l = c.loop-line in
    let found = subst (λ (xs : List ActiveLine). IsNoneBefore c.args.lines.now xs c.args.level.y) c.in-Some.ensures.cases.0 l.invariant in
    let here = seam_at c.in-Some.line.now c.in-Some.rest.now c.meeting_with.result c.args.level.y c.meeting_with.ensures
    (c.is_at.ensures.yes c.if-is_at.true) in
    found.some c.in-Some.line.now (first_here c.in-Some.line.now c.in-Some.rest.now c.args.level.y here)

pub loop-line-preserved : goal.loop-line-preserved
loop-line-preserved c =
    let l = c.loop-line in
    let found = subst (λ (xs : List ActiveLine). IsNoneBefore c.args.lines.now xs c.args.level.y) c.in-Some.ensures.cases.0 l.invariant in
    none_more c.args.lines.now c.in-Some.line.now c.in-Some.rest.now c.args.level.y found
    (λ m. c.is_at.ensures.other c.if-is_at.false (c.meeting_with.ensures.only c.args.level.y m))
