use Rattle.std.proofs.Common.{◌≡◌, ◌≤◌, ◌-◌, length, take}
use Rattle.active_lines.specs.Neighbours.{IsLeastMeeting}
use Rattle.active_lines.specs.Chunked.{lines_of}
use Rattle.active_lines.proofs.looking.least_meeting.Given as goal

abbrev pub invariant-loop-c : goal.invariant-loop-c
invariant-loop-c l = record {
  inside : l.c ≤ length l.fn.chunks;
  same : l.chunks ≡ l.fn.chunks;
  least : IsLeastMeeting (lines_of (take l.c l.fn.chunks)) l.least;
}

abbrev pub decreases-loop-c : goal.decreases-loop-c
decreases-loop-c l = length l.fn.chunks - l.c
