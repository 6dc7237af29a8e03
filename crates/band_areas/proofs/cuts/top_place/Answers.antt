use Rattle.std.proofs.Common.{rules, FitsSigned, w64}
use Rattle.std.proofs.lemmas.Int.{to_z-of_z}
use Rattle.band_areas.proofs.CutLemmas.{top_within}
use Rattle.band_areas.proofs.cuts.top_place.Goals as goal

pub place_of-requires-clause-bottom : goal.place_of-requires-clause-bottom
place_of-requires-clause-bottom c =
    let fits : FitsSigned w64 c.top_row-row.result.y = search rules in
    let within = top_within c.args.trap.now c.top_row-row.result.y c.top_row-row.ensures.shot c.top_row-row.ensures.row in
    simp to_z-of_z (rw c.left.ensures.value within.bottom)

pub place_of-requires-clause-top : goal.place_of-requires-clause-top
place_of-requires-clause-top c =
    let fits : FitsSigned w64 c.top_row-row.result.y = search rules in
    let within = top_within c.args.trap.now c.top_row-row.result.y c.top_row-row.ensures.shot c.top_row-row.ensures.row in
    simp to_z-of_z (rw c.left.ensures.value within.top)

pub place_of-requires-clause-row : goal.place_of-requires-clause-row
place_of-requires-clause-row c =
    let fits : FitsSigned w64 c.top_row-row.result.y = search rules in
    let within = top_within c.args.trap.now c.top_row-row.result.y c.top_row-row.ensures.shot c.top_row-row.ensures.row in
    simp to_z-of_z within.row

pub place_of-requires-clause-next_row : goal.place_of-requires-clause-next_row
place_of-requires-clause-next_row c =
    let fits : FitsSigned w64 c.top_row-row.result.y = search rules in
    let within = top_within c.args.trap.now c.top_row-row.result.y c.top_row-row.ensures.shot c.top_row-row.ensures.row in
    simp to_z-of_z within.next_row
