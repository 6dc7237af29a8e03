use Rattle.std.proofs.Common.{length}
use Rattle.deck_plan.specs.Images.{Turned}
use Rattle.deck_plan.proofs.mirroring.images_in_order.Given as goal

-- the images of what stands before the rest are there
abbrev pub invariant-loop-first : goal.invariant-loop-first
invariant-loop-first l = Turned l.axis.m l.fn.traps l.left l.images.items

abbrev pub decreases-loop-first : goal.decreases-loop-first
decreases-loop-first l = length l.left
