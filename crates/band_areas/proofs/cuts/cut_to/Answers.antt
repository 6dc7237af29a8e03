use Rattle.std.proofs.Common.{rules, refl, ◌∙◌, FitsSigned, w64}
use Rattle.std.proofs.lemmas.Int.{to_z-of_z}
use Rattle.band_areas.proofs.CutLemmas.{cut_shot_at, cut_meets}
use Rattle.band_areas.proofs.cuts.cut_to.Goals as goal

pub of-requires : goal.of-requires
of-requires c =
    let a : FitsSigned w64 c.y0.result = search rules in
    let b : FitsSigned w64 c.y0-2.result = search rules in
    let d : FitsSigned w64 c.y1.result = search rules in
    let e : FitsSigned w64 c.y1-2.result = search rules in
    let f : FitsSigned w64 c.max-bottom.result = search rules in
    let g : FitsSigned w64 c.min-top.result = search rules in
    let low = rw (c.y0.ensures.value, c.y0-2.ensures.value) at (simp to_z-of_z at c.max-bottom.ensures.value) in
    let high = rw (c.y1.ensures.value, c.y1-2.ensures.value) at (simp to_z-of_z at c.min-top.ensures.value) in
    simp to_z-of_z (cut_shot_at c.args.rows c.args.trap.now _ _ _ _ c.requires.some
    (cut_meets c.args.rows c.args.trap.now c.requires.some c.y0.ensures.shot c.requires.meets) c.y0.ensures.shot
    low high c.left.ensures.value c.right.ensures.value)

pub returns : goal.returns
returns c =
    let a : FitsSigned w64 c.y0.result = search rules in
    let b : FitsSigned w64 c.y0-2.result = search rules in
    let d : FitsSigned w64 c.y1.result = search rules in
    let e : FitsSigned w64 c.y1-2.result = search rules in
    let f : FitsSigned w64 c.max-bottom.result = search rules in
    let g : FitsSigned w64 c.min-top.result = search rules in
    let low = rw (c.y0.ensures.value, c.y0-2.ensures.value) at (simp to_z-of_z at c.max-bottom.ensures.value) in
    let high = rw (c.y1.ensures.value, c.y1-2.ensures.value) at (simp to_z-of_z at c.min-top.ensures.value) in
    let is = simp to_z-of_z at c.of.ensures in
    is ∙ (rw (low, high, c.left.ensures.value, c.right.ensures.value) refl)
