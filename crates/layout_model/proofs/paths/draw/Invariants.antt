use Rattle.std.proofs.Common.{drop}
use Rattle.layout_model.proofs.WalkLemmas.{walk_list}
use Rattle.layout_model.proofs.DrawLemmas.{Drawn}
use Rattle.layout_model.proofs.paths.draw.Given as goal

abbrev pub invariant-loop-point : goal.invariant-loop-point
invariant-loop-point l = Drawn l.pair l.offsets l.fixed l.brush (walk_list l.brush l.initial.walk l.rest) l.shapes.items l.walk (drop l.point-index l.rest)
