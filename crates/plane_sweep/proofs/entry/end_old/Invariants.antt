use Rattle.std.proofs.Common.{length}
use Rattle.std.specs.Prelude.{option_map}
use Rattle.plane_sweep.specs.RuleTests.{growing_at}
use Rattle.plane_sweep.proofs.EndLemmas.{EndedSoFar}
use Rattle.plane_sweep.proofs.entry.end_old.Given as goal

abbrev pub invariant-loop-line : goal.invariant-loop-line
invariant-loop-line l = EndedSoFar l.level.y l.initial.waiting.items l.lines l.left l.waiting.items (option_map growing_at l.last)

abbrev pub decreases-loop-line : goal.decreases-loop-line
decreases-loop-line l = length l.left
