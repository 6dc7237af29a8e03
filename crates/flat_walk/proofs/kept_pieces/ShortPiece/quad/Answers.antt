use Rattle.std.proofs.Common.{◌∙◌, ap, w32, w64, FitsSigned, rules, refl}
use Rattle.std.proofs.lemmas.Int.{to_z-of_z}
use Rattle.half_grid.specs.Lines.{x_on}
use Rattle.half_grid.specs.Quads.{corners_of}
use Rattle.half_grid.proofs.ForCallers.{quad_of_shot}
use Rattle.flat_walk.specs.ShortPieces.{trapezoid_from}
use Rattle.flat_walk.proofs.ShortLemmas.{corners_are, number_fits}
use Rattle.flat_walk.proofs.kept_pieces.ShortPiece.quad.Goals as goal

pub new-requires : goal.new-requires
new-requires c =
    let z = trapezoid_from c.self.inside in
    let y0 : FitsSigned w32 c.self.inside.y0 = search rules in
    let y1 : FitsSigned w32 c.self.inside.y1 = search rules in
    let left : FitsSigned w32 c.self.inside.left = search rules in
    let right : FitsSigned w32 c.self.inside.right = search rules in
    let bottom = number_fits _ y0 in
    let top = number_fits _ y1 in
    let a : FitsSigned w64 c.x_at.result = search rules in
    let b : FitsSigned w64 c.x_at-2.result = search rules in
    let d : FitsSigned w64 c.x_at-3.result = search rules in
    let e : FitsSigned w64 c.x_at-4.result = search rules in
    let left_is = simp to_z-of_z at c.line_from-left.ensures in
    let right_is = simp to_z-of_z at c.line_from-right.ensures in
    let first = simp to_z-of_z at c.x_at.ensures in
    let second = simp to_z-of_z at c.x_at-2.ensures in
    let third = simp to_z-of_z at c.x_at-3.ensures in
    let fourth = simp to_z-of_z at c.x_at-4.ensures in
    simp to_z-of_z (rw (corners_are z _ _ _ _ _ _ refl refl
    (first ∙ ap (λ l. x_on l z.y0) left_is) (second ∙ ap (λ l. x_on l z.y1) left_is)
    (third ∙ ap (λ l. x_on l z.y1) right_is) (fourth ∙ ap (λ l. x_on l z.y0) right_is)) (quad_of_shot z c.self.invariant))

pub returns : goal.returns
returns c =
    let z = trapezoid_from c.self.inside in
    let y0 : FitsSigned w32 c.self.inside.y0 = search rules in
    let y1 : FitsSigned w32 c.self.inside.y1 = search rules in
    let left : FitsSigned w32 c.self.inside.left = search rules in
    let right : FitsSigned w32 c.self.inside.right = search rules in
    let bottom = number_fits _ y0 in
    let top = number_fits _ y1 in
    let a : FitsSigned w64 c.x_at.result = search rules in
    let b : FitsSigned w64 c.x_at-2.result = search rules in
    let d : FitsSigned w64 c.x_at-3.result = search rules in
    let e : FitsSigned w64 c.x_at-4.result = search rules in
    let left_is = simp to_z-of_z at c.line_from-left.ensures in
    let right_is = simp to_z-of_z at c.line_from-right.ensures in
    let first = simp to_z-of_z at c.x_at.ensures in
    let second = simp to_z-of_z at c.x_at-2.ensures in
    let third = simp to_z-of_z at c.x_at-3.ensures in
    let fourth = simp to_z-of_z at c.x_at-4.ensures in
    let made = simp to_z-of_z at c.new.ensures in
    made ∙ (corners_are z _ _ _ _ _ _ refl refl
    (first ∙ ap (λ l. x_on l z.y0) left_is) (second ∙ ap (λ l. x_on l z.y1) left_is)
    (third ∙ ap (λ l. x_on l z.y1) right_is) (fourth ∙ ap (λ l. x_on l z.y0) right_is) ∙ ap corners_of c.self.view_is)
