use Rattle.std.proofs.Common.{rules, arith, ◌+ℤ◌, ◌<ℤ◌, FitsSigned, w64, ap}
use Rattle.std.proofs.lemmas.Int.{ints, to_z-of_z}
use Rattle.fracture.specs.Cutting.{height_of}
use Rattle.fracture.proofs.PartLemmas.{reach_fits, inside_reach, lowest_is_low, above_is_shot}
use Rattle.fracture.proofs.parts.cut_by_height.Goals as goal

pub of-requires : goal.of-requires
of-requires c =
    let first : FitsSigned w64 c.y0-y0.result = search rules in
    let limit : FitsSigned w64 c.args.limits.now.height = search rules in
    let over : c.args.limits.now.height <ℤ height_of c.args.trap.now = omega (arith, ints, c.height.ensures.value, c.if-height-limits.false) in
    let shot = c.y0-y0.ensures.shot in
    let at : FitsSigned w64 (c.y0-y0.result +ℤ c.args.limits.now.height) = rw c.y0-y0.ensures.value
    (reach_fits _ (inside_reach _ _ c.requires c.args.trap.now shot over)) in
    let legal = (lowest_is_low _ _ c.requires c.args.trap.now shot over).shot in
    simp to_z-of_z (simp (c.y0-y0.ensures.value, c.left.ensures.value, c.right.ensures.value) legal)

pub of-requires-2 : goal.of-requires-2
of-requires-2 c =
    let first : FitsSigned w64 c.y0-y0.result = search rules in
    let last : FitsSigned w64 c.y1-y1.result = search rules in
    let limit : FitsSigned w64 c.args.limits.now.height = search rules in
    let over : c.args.limits.now.height <ℤ height_of c.args.trap.now = omega (arith, ints, c.height.ensures.value, c.if-height-limits.false) in
    let shot = c.y0-y0.ensures.shot in
    let at : FitsSigned w64 (c.y0-y0.result +ℤ c.args.limits.now.height) = rw c.y0-y0.ensures.value
    (reach_fits _ (inside_reach _ _ c.requires c.args.trap.now shot over)) in
    let legal = above_is_shot _ _ c.requires c.args.trap.now shot over in
    simp to_z-of_z (simp (c.y0-y0.ensures.value, c.y1-y1.ensures.value, c.left-2.ensures.value, c.right-2.ensures.value) legal)

pub returns-clause-cut : goal.returns-clause-cut
returns-clause-cut c = λ over.
    let first : FitsSigned w64 c.y0-y0.result = search rules in
    let last : FitsSigned w64 c.y1-y1.result = search rules in
    let limit : FitsSigned w64 c.args.limits.now.height = search rules in
    let at : FitsSigned w64 (c.y0-y0.result +ℤ c.args.limits.now.height) = rw c.y0-y0.ensures.value
    (reach_fits _ (inside_reach _ _ c.requires c.args.trap.now c.y0-y0.ensures.shot over)) in
    let below = simp to_z-of_z at c.of.ensures in
    let above = simp to_z-of_z at c.of-2.ensures in
    rw (below, above) (simp (
      c.y0-y0.ensures.value,
      c.y1-y1.ensures.value,
      c.left.ensures.value,
      c.right.ensures.value,
      c.left-2.ensures.value,
      c.right-2.ensures.value,
    ))

pub returns-clause-low : goal.returns-clause-low
returns-clause-low c =
    let over : c.args.limits.now.height <ℤ height_of c.args.trap.now = omega (arith, ints, c.height.ensures.value, c.if-height-limits.false) in
    rw (ap (λ cut. cut.part) (returns-clause-cut c over)) (omega (arith, ints))
