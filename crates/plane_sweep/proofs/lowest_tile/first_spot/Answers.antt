use Rattle.std.proofs.Common.{FitsSigned, w64, rules}
use Rattle.std.proofs.lemmas.Int.{to_z-of_z}
use Rattle.plane_sweep.proofs.LowestLemmas.{left_reach}
use Rattle.plane_sweep.proofs.lowest_tile.first_spot.Goals as goal

pub place_of-requires-clause-top : goal.place_of-requires-clause-top
place_of-requires-clause-top c =
    let fits : FitsSigned w64 c.y0-2.result = search rules in
    rw (to_z-of_z w64 c.y0-2.result fits, c.left.ensures.value, c.y0-2.ensures.value) (left_reach c.args.trap.now c.left.ensures.shot)
