use Rattle.std.proofs.Common.{◌-◌, length}
use Rattle.active_lines.specs.declared.item.ActiveLine.{ActiveLine}
use Rattle.active_lines.specs.Neighbours.{IsFirstMeeting, SomeMeeting}
use Rattle.active_lines.specs.Chunked.{IsPlace, lines_after}
use Rattle.active_lines.proofs.looking.first_meeting.Given as goal

abbrev pub invariant-loop-c : goal.invariant-loop-c
invariant-loop-c l = record {
  place : IsPlace l.chunks l.c l.from;
  some : (line : ActiveLine) → IsFirstMeeting (lines_after l.chunks l.c l.from) l.level.y line
      → IsFirstMeeting (lines_after l.chunks l.fn.place.chunk l.fn.place.at) l.level.y line;
  none : SomeMeeting (lines_after l.chunks l.fn.place.chunk l.fn.place.at) l.level.y → SomeMeeting (lines_after l.chunks l.c l.from) l.level.y;
}

abbrev pub decreases-loop-c : goal.decreases-loop-c
decreases-loop-c l = length l.chunks - l.c
