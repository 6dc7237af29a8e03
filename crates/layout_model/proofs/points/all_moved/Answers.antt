use Rattle.half_grid.specs.Reach.{IsPointWithinReach}
use Rattle.layout_model.specs.Images.{moved}
use Rattle.layout_model.proofs.PointLemmas.{image_at}
use Rattle.layout_model.proofs.points.all_moved.Goals as goal

pub moved-requires : goal.moved-requires
moved-requires c =
    image_at IsPointWithinReach (moved c.args.by) c.args.points.now c.loop-p.p-index _ c.loop-p-test.true c.requires
