use Rattle.std.proofs.Common.{◌≡◌, ◌++◌, drop}
use Rattle.band_areas.proofs.GrowingLemmas.{left_out}
use Rattle.band_areas.proofs.stacks.unmarked.Given as goal

-- those so far, and those of what is left
abbrev pub invariant-loop-n : goal.invariant-loop-n
invariant-loop-n l = l.list.items ++ left_out (drop l.n l.marks) (drop l.n l.growing) ≡ left_out l.marks l.growing
