use Rattle.std.proofs.Common.{take, ◌∷◌}
use Rattle.layout_model.specs.Hulls.{IsLeastBoxOf}
use Rattle.layout_model.proofs.boxes.box_from.Given as goal

abbrev pub invariant-loop-p : goal.invariant-loop-p
invariant-loop-p l = IsLeastBoxOf (l.fn.first ∷ take l.p-index l.rest) l.hull
