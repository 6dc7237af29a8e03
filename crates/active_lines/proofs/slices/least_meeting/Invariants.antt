use Rattle.std.proofs.Common.{length}
use Rattle.active_lines.proofs.Meeting.{IsLeastBefore}
use Rattle.active_lines.proofs.slices.least_meeting.Given as goal

abbrev pub invariant-loop-line : goal.invariant-loop-line
invariant-loop-line l = IsLeastBefore l.lines l.left l.least

abbrev pub decreases-loop-line : goal.decreases-loop-line
decreases-loop-line l = length l.left
