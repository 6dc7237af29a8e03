use Rattle.std.proofs.Common.{◌≡◌, map, take}
use Rattle.layout_model.specs.Images.{moved}
use Rattle.layout_model.proofs.points.all_moved.Given as goal

abbrev pub invariant-loop-p : goal.invariant-loop-p
invariant-loop-p l = l.list.items ≡ map (moved l.fn.by) (take l.p-index l.points)
