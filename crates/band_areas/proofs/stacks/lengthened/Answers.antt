use Rattle.std.proofs.Common.{◌≡◌, ◌∙◌, Bool, true, List, set, sym, subst, ap, ℤ}
use Rattle.half_grid.specs.Trapezoids.{Trapezoid, trapezoid}
use Rattle.deck_plan.specs.Stacks.{goes_on}
use Rattle.band_areas.proofs.GrowingLemmas.{lengthened_none, going_none, bottom_at, going_at}
use Rattle.band_areas.proofs.stacks.lengthened.Goals as goal

pub returns-in_default-clause-is : goal.returns-in_default-clause-is
returns-in_default-clause-is c = lengthened_none c.args.growing.now c.args.above.now c.in_default.ensures

pub returns-in_default-clause-marks : goal.returns-in_default-clause-marks
returns-in_default-clause-marks c = λ done same. same ∙ going_none c.args.growing.now c.args.above.now done c.in_default.ensures

pub both-requires : goal.both-requires
both-requires c =
    subst (λ (z : Trapezoid). goes_on z c.args.above.now ≡ true) (sym c.index-growing-at.is) (c.in-Some.ensures.1 c.index-growing-at.result)

pub returns-clause-is : goal.returns-clause-is
returns-clause-is c =
    let growing = c.args.growing.now in
    let above = c.args.above.now in
    let at = c.in-Some.at in
    let d = c.index-growing-at.result in
    let bottom = bottom_at growing above at d c.requires.growing c.in-Some.ensures.0 (c.in-Some.ensures.1 d) in
    c.both.ensures ∙ ap (λ (y : ℤ). trapezoid y above.y1 above.left above.right) (ap (λ (z : Trapezoid). z.y0) c.index-growing-at.is ∙ sym bottom)

pub returns-clause-marks : goal.returns-clause-marks
returns-clause-marks c = λ done same.
    let growing = c.args.growing.now in
    let above = c.args.above.now in
    let at = c.in-Some.at in
    let d = c.index-growing-at.result in
    ap (λ (marks : List Bool). set marks at true) same ∙ going_at growing above done at d c.requires.growing c.in-Some.ensures.0 (c.in-Some.ensures.1 d)
