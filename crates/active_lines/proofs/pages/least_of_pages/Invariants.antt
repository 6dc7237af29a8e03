use Rattle.std.proofs.Common.{◌≡◌, ◌+◌, ◌-◌, ◌*◌, ◌≤◌, length, take}
use Rattle.active_lines.specs.Neighbours.{IsLeastMeeting}
use Rattle.active_lines.specs.Chunked.{ArePages, lines_of}
use Rattle.active_lines.proofs.pages.least_of_pages.Given as goal

abbrev pub invariant-loop-p : goal.invariant-loop-p
invariant-loop-p l = record {
  some : 1 ≤ l.p;
  inside : 32 * l.p ≤ length l.fn.chunks + 32;
  same : l.chunks ≡ l.fn.chunks;
  pages : ArePages l.fn.chunks l.leasts.items;
  least : IsLeastMeeting (lines_of (take (32 * l.p + 1) l.fn.chunks)) l.least;
}

abbrev pub decreases-loop-p : goal.decreases-loop-p
decreases-loop-p l = length l.fn.chunks - l.p
