use Rattle.std.proofs.Common.{FitsSigned, w32, w64, rules}
use Rattle.std.proofs.lemmas.Int.{to_z-of_z}
use Rattle.flat_walk.proofs.BoxLemmas.{same_frame}
use Rattle.flat_walk.proofs.short_boxes.ShortBox.round.Goals as goal

pub returns-clause-around : goal.returns-clause-around
returns-clause-around c =
    let around = c.args.around in
    let from_x0 : FitsSigned w64 around.x0 = search rules in
    let from_y0 : FitsSigned w64 around.y0 = search rules in
    let from_x1 : FitsSigned w64 around.x1 = search rules in
    let from_y1 : FitsSigned w64 around.y1 = search rules in
    let x0 : FitsSigned w32 c.low_side.result = search rules in
    let y0 : FitsSigned w32 c.low_side-2.result = search rules in
    let x1 : FitsSigned w32 c.high_side.result = search rules in
    let y1 : FitsSigned w32 c.high_side-2.result = search rules in
    simp to_z-of_z (record {
      left = simp to_z-of_z at c.low_side.ensures.around;
      bottom = simp to_z-of_z at c.low_side-2.ensures.around;
      right = simp to_z-of_z at c.high_side.ensures.around;
      top = simp to_z-of_z at c.high_side-2.ensures.around;
    })

pub returns-clause-same : goal.returns-clause-same
returns-clause-same c = λ kept.
    let around = c.args.around in
    let from_x0 : FitsSigned w64 around.x0 = search rules in
    let from_y0 : FitsSigned w64 around.y0 = search rules in
    let from_x1 : FitsSigned w64 around.x1 = search rules in
    let from_y1 : FitsSigned w64 around.y1 = search rules in
    let x0 : FitsSigned w32 c.low_side.result = search rules in
    let y0 : FitsSigned w32 c.low_side-2.result = search rules in
    let x1 : FitsSigned w32 c.high_side.result = search rules in
    let y1 : FitsSigned w32 c.high_side-2.result = search rules in
    simp to_z-of_z (same_frame _ around (simp to_z-of_z at c.low_side.ensures.same kept.x0)
    (simp to_z-of_z at c.low_side-2.ensures.same kept.y0) (simp to_z-of_z at c.high_side.ensures.same kept.x1)
    (simp to_z-of_z at c.high_side-2.ensures.same kept.y1))
