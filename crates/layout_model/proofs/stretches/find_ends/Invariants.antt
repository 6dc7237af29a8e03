use Rattle.std.proofs.Common.{drop}
use Rattle.layout_model.specs.Walks.{walk_from}
use Rattle.layout_model.proofs.WalkLemmas.{walk_list}
use Rattle.layout_model.proofs.EndLemmas.{Ended}
use Rattle.layout_model.proofs.stretches.find_ends.Given as goal

abbrev pub invariant-loop-point : goal.invariant-loop-point
invariant-loop-point l = Ended l.brush (walk_list l.brush (walk_from l.brush l.fn.start) l.rest) l.walk l.first (drop l.point-index l.rest)
