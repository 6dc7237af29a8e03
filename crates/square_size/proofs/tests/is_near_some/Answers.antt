use Rattle.half_grid.proofs.ForCallers.{tile_of_shot_within}
use Rattle.square_size.proofs.tests.is_near_some.Goals as goal

pub near-requires-clause-second : goal.near-requires-clause-second
near-requires-clause-second c = tile_of_shot_within c.args.trap.now _ c.y0-j.ensures.shot (c.covers.ensures.0 c.if-covers.true)
