use Rattle.std.proofs.Common.{◌≡◌, ◌∙◌, ap, sym, subst, w32, w64, FitsSigned, rules}
use Rattle.std.proofs.lemmas.Int.{to_z-of_z}
use Rattle.half_grid.specs.Lines.{first_strip}
use Rattle.half_grid.specs.Trapezoids.{IsShot, trapezoid}
use Rattle.flat_walk.specs.ShortPieces.{kind_of, line_from}
use Rattle.flat_walk.proofs.ShortLemmas.{trapezoid_is}
use Rattle.flat_walk.proofs.kept_pieces.ShortPiece.of.Goals as goal

same : (c : goal.After-kind_of-2) → trapezoid c.in_ok-y0.y0 c.in_ok-y1.y1
    (line_from c.kind_of.result c.in_ok-left.left) (line_from c.kind_of-2.result c.in_ok-right.right) ≡ c.args.trap.now
same c =
    let y0_fits : FitsSigned w64 c.y0.result = search rules in
    let y1_fits : FitsSigned w64 c.y1.result = search rules in
    let left_fits : FitsSigned w64 c.strip_of.result = search rules in
    let right_fits : FitsSigned w64 c.strip_of-2.result = search rules in
    let y0_is = simp to_z-of_z at c.in_ok-y0.ensures.same in
    let y1_is = simp to_z-of_z at c.in_ok-y1.ensures.same in
    let left_is = simp to_z-of_z at c.in_ok-left.ensures.same in
    let right_is = simp to_z-of_z at c.in_ok-right.ensures.same in
    trapezoid_is c.args.trap.now _ _ _ _ _ _
    (y0_is ∙ c.y0.ensures.value) (y1_is ∙ c.y1.ensures.value)
    (left_is ∙ (c.strip_of.ensures ∙ ap first_strip c.left.ensures.value)) (right_is ∙ (c.strip_of-2.ensures ∙ ap first_strip c.right.ensures.value))
    (c.kind_of.ensures ∙ ap kind_of c.left-2.ensures.value) (c.kind_of-2.ensures ∙ ap kind_of c.right-2.ensures.value)

pub invariant_of-result : goal.invariant_of-result
invariant_of-result c =
    let y0 : FitsSigned w32 c.in_ok-y0.y0 = search rules in
    let y1 : FitsSigned w32 c.in_ok-y1.y1 = search rules in
    let left : FitsSigned w32 c.in_ok-left.left = search rules in
    let right : FitsSigned w32 c.in_ok-right.right = search rules in
    simp to_z-of_z (subst IsShot (sym (same c)) c.y0.ensures.shot)

pub returns-clause-same : goal.returns-clause-same
returns-clause-same c =
    let y0 : FitsSigned w32 c.in_ok-y0.y0 = search rules in
    let y1 : FitsSigned w32 c.in_ok-y1.y1 = search rules in
    let left : FitsSigned w32 c.in_ok-left.left = search rules in
    let right : FitsSigned w32 c.in_ok-right.right = search rules in
    simp to_z-of_z (same c)
