use Rattle.std.proofs.Common.{length}
use Rattle.active_lines.proofs.Meeting.{IsNoneBefore}
use Rattle.active_lines.proofs.slices.first_meeting.Given as goal

abbrev pub invariant-loop-line : goal.invariant-loop-line
invariant-loop-line l = IsNoneBefore l.lines l.left l.level.y

abbrev pub decreases-loop-line : goal.decreases-loop-line
decreases-loop-line l = length l.left
