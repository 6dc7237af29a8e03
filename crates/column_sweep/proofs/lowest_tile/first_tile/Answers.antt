use Rattle.std.proofs.Common.{FitsSigned, w64, rules}
use Rattle.std.proofs.lemmas.Int.{to_z-of_z}
use Rattle.column_sweep.proofs.LowestTiles.{next_row_reach, left_reach}
use Rattle.column_sweep.proofs.lowest_tile.first_tile.Goals as goal

pub place_of-requires-clause-top : goal.place_of-requires-clause-top
place_of-requires-clause-top c =
    let fits : FitsSigned w64 c.args.slab.y0 = search rules in
    rw (to_z-of_z w64 c.args.slab.y0 fits) (left_reach _ _ _ _ c.requires)

pub place_of-requires-clause-next_row : goal.place_of-requires-clause-next_row
place_of-requires-clause-next_row c =
    let fits : FitsSigned w64 c.args.slab.y0 = search rules in
    rw (to_z-of_z w64 c.args.slab.y0 fits) (next_row_reach _ _ _ _ c.requires)
