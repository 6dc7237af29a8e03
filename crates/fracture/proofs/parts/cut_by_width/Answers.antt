use Rattle.std.proofs.Common.{rules, arith, ◌<ℤ◌, ◌≤ℤ◌, FitsSigned, w64, ap}
use Rattle.std.proofs.lemmas.Int.{ints, to_z-of_z}
use Rattle.half_grid.specs.Trapezoids.{box_width}
use Rattle.fracture.specs.Cutting.{height_of}
use Rattle.fracture.proofs.PartLemmas.{left_is_shot, beyond_is_low, for_some}
use Rattle.fracture.proofs.parts.cut_by_width.Goals as goal

pub of-requires : goal.of-requires
of-requires c =
    let bottom : FitsSigned w64 c.y0-y0.result = search rules in
    let top : FitsSigned w64 c.y1-y1.result = search rules in
    let at : FitsSigned w64 c.cut_at.result = search rules in
    let over : c.args.limits.now.width <ℤ box_width c.args.piece.now = omega (arith, ints, c.box_width.ensures.value, c.if-box_width-limits.false) in
    let shot = left_is_shot _ _ c.requires.limits c.args.piece.now (record { shot = c.y0-y0.ensures.shot; low = c.requires.low }) over in
    simp to_z-of_z (simp (c.y0-y0.ensures.value, c.y1-y1.ensures.value, c.left.ensures.value, c.cut_at.ensures) shot)

pub of-requires-2 : goal.of-requires-2
of-requires-2 c =
    let bottom : FitsSigned w64 c.y0-y0.result = search rules in
    let top : FitsSigned w64 c.y1-y1.result = search rules in
    let at : FitsSigned w64 c.cut_at.result = search rules in
    let over : c.args.limits.now.width <ℤ box_width c.args.piece.now = omega (arith, ints, c.box_width.ensures.value, c.if-box_width-limits.false) in
    let shot = (beyond_is_low _ _ c.requires.limits c.args.piece.now (record { shot = c.y0-y0.ensures.shot; low = c.requires.low }) over).shot in
    simp to_z-of_z (simp (c.y0-y0.ensures.value, c.y1-y1.ensures.value, c.right.ensures.value, c.cut_at.ensures) shot)

pub returns-clause-cut : goal.returns-clause-cut
returns-clause-cut c = λ over.
    let bottom : FitsSigned w64 c.y0-y0.result = search rules in
    let top : FitsSigned w64 c.y1-y1.result = search rules in
    let at : FitsSigned w64 c.cut_at.result = search rules in
    let left = simp to_z-of_z at c.of.ensures in
    let right = simp to_z-of_z at c.of-2.ensures in
    rw (left, right) (simp (c.y0-y0.ensures.value, c.y1-y1.ensures.value, c.left.ensures.value, c.right.ensures.value, c.cut_at.ensures))

pub returns-clause-low : goal.returns-clause-low
returns-clause-low c =
    let over : c.args.limits.now.width <ℤ box_width c.args.piece.now = omega (arith, ints, c.box_width.ensures.value, c.if-box_width-limits.false) in
    rw (ap (λ cut. cut.rest) (returns-clause-cut c over)) (for_some (λ z. height_of z ≤ℤ c.args.limits.now.height) _ c.requires.low)
