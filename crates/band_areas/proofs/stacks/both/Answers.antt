use Rattle.std.proofs.Common.{rules, FitsSigned, w64}
use Rattle.std.proofs.lemmas.Int.{to_z-of_z}
use Rattle.band_areas.proofs.GrowingLemmas.{both_shot}
use Rattle.band_areas.proofs.stacks.both.Goals as goal

pub of-requires : goal.of-requires
of-requires c =
    let a : FitsSigned w64 c.y0.result = search rules in
    let b : FitsSigned w64 c.y1.result = search rules in
    let s = both_shot c.args.trap.now c.args.above.now c.requires c.y0.ensures.shot c.y1.ensures.shot in
    simp to_z-of_z (rw (c.y0.ensures.value, c.y1.ensures.value, c.left.ensures.value, c.right.ensures.value) s)
