use Rattle.std.proofs.Common.{[], ◌≡◌, map, ◌++◌, take}
use Rattle.trap_join.specs.Fronts.{grown_into}
use Rattle.trap_join.proofs.merge.begin_all.Given as goal

abbrev pub invariant-loop-run : goal.invariant-loop-run
invariant-loop-run l = l.fresh.items ≡ l.initial.fresh.items ++ map (grown_into [] l.y) (take l.run-index l.runs)
