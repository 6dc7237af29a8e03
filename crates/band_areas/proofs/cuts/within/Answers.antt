use Rattle.band_areas.proofs.CutLemmas.{cut_is, are_shots, cut_joined}
use Rattle.band_areas.proofs.cuts.within.Goals as goal

pub returns-clause-shots : goal.returns-clause-shots
returns-clause-shots c =
    let cut = cut_is c.args.rows c.args.traps.now _ _ _ _ _ c.in_ok-list.ensures c.in_ok-last.ensures
    c.sort_from_left.ensures.permutation c.sort_from_left.ensures.ascend c.as_slice.ensures.value
    c.in_ok-extend_from_slice.ensures.items in
    are_shots c.args.rows c.args.traps.now _ c.requires.some c.requires.shots cut

pub returns-clause-cut : goal.returns-clause-cut
returns-clause-cut c = λ window joined.
    let cut = cut_is c.args.rows c.args.traps.now _ _ _ _ _ c.in_ok-list.ensures c.in_ok-last.ensures
    c.sort_from_left.ensures.permutation c.sort_from_left.ensures.ascend c.as_slice.ensures.value
    c.in_ok-extend_from_slice.ensures.items in
    cut_joined c.args.rows c.args.traps.now _ c.requires.some c.requires.shots cut window joined
