use Rattle.std.proofs.lemmas.List.Elements.{All-push}
use Rattle.half_grid.specs.Reach.{IsPointWithinReach}
use Rattle.sweep_tests.proofs.scans.points_of.Goals as goal

pub loop-x-preserved : goal.loop-x-preserved
loop-x-preserved c = rw c.in_ok-push.ensures.items (All-push IsPointWithinReach _ _ c.loop-x.invariant c.near_point.ensures)
