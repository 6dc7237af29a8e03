use Rattle.std.proofs.Common.{length}
use Rattle.oas_shapes.specs.Plane.{origin, places_along}
use Rattle.oas_shapes.specs.PointLists.{added_up}
use Rattle.oas_shapes.specs.Trails.{IsTrail}
use Rattle.oas_shapes.proofs.trails.along_changes.Given as goal

abbrev pub invariant-loop-change : goal.invariant-loop-change
invariant-loop-change l = IsTrail (places_along l.fn.start (added_up origin l.changes)) l.trail (added_up l.way l.rest)

abbrev pub decreases-loop-change : goal.decreases-loop-change
decreases-loop-change l = length l.rest
