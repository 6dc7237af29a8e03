use Rattle.active_lines.specs.Chunked.{IsOpenUpTo}
use Rattle.active_lines.proofs.looking.open_before.Given as goal

abbrev pub invariant-loop-count : goal.invariant-loop-count
invariant-loop-count l = IsOpenUpTo l.chunks l.fn.place.chunk l.fn.place.at l.c l.count

abbrev pub decreases-loop-count : goal.decreases-loop-count
decreases-loop-count l = l.c
