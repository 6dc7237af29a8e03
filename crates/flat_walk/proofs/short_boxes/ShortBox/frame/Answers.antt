use Rattle.std.proofs.Common.{◌∙◌, FitsSigned, w32, w64, rules}
use Rattle.std.proofs.lemmas.Int.{to_z-of_z}
use Rattle.flat_walk.specs.ShortBoxes.{frame_of}
use Rattle.flat_walk.proofs.BoxLemmas.{same_frame}
use Rattle.flat_walk.proofs.short_boxes.ShortBox.frame.Goals as goal

pub returns : goal.returns
returns c =
    let sides = c.self.inside in
    let side_x0 : FitsSigned w32 sides.x0 = search rules in
    let side_y0 : FitsSigned w32 sides.y0 = search rules in
    let side_x1 : FitsSigned w32 sides.x1 = search rules in
    let side_y1 : FitsSigned w32 sides.y1 = search rules in
    let x0 : FitsSigned w64 c.place.result = search rules in
    let y0 : FitsSigned w64 c.place-2.result = search rules in
    let x1 : FitsSigned w64 c.place-3.result = search rules in
    let y1 : FitsSigned w64 c.place-4.result = search rules in
    simp to_z-of_z (same_frame _ (frame_of sides) (simp to_z-of_z at c.place.ensures) (simp to_z-of_z at c.place-2.ensures)
    (simp to_z-of_z at c.place-3.ensures) (simp to_z-of_z at c.place-4.ensures)
    ∙ c.self.view_is)
