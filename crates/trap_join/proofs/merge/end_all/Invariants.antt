use Rattle.std.proofs.Common.{◌≡◌, map, ◌++◌, take}
use Rattle.trap_join.specs.Fronts.{ended_at}
use Rattle.trap_join.proofs.merge.end_all.Given as goal

abbrev pub invariant-loop-growing : goal.invariant-loop-growing
invariant-loop-growing l = l.waiting.items ≡ l.initial.waiting.items ++ map (ended_at l.y) (take l.growing-index l.front)
