use Rattle.std.proofs.Common.{sym, ◌∙◌, refl}
use Rattle.layout_model.proofs.CourseLemmas.{same_more, same_all, same_not}
use Rattle.layout_model.proofs.courses.has_no_length.Goals as goal

pub loop-point-preserved : goal.loop-point-preserved
loop-point-preserved c =
    same_more c.in-Some.first.now c.in-Some.rest.now c.loop-point.point-index _ c.loop-point.invariant
    c.loop-point-test.true (sym c.is_same.ensures ∙ c.if-not-is_same.false)

pub returns-then-not-is_same : goal.returns-then-not-is_same
returns-then-not-is_same c = (
  λ e. absurd (let bad : ⊥ = cc in bad),
  λ all. absurd (same_not c.args.points.now c.in-Some.first.now c.in-Some.rest.now c.loop-point.point-index _
      c.in-Some.ensures.cases.0 c.loop-point-test.true (sym c.is_same.ensures ∙ c.if-not-is_same.true) all),
)

pub returns : goal.returns
returns c = (
  λ e. same_all c.args.points.now c.in-Some.first.now c.in-Some.rest.now c.loop-point.point-index
      c.in-Some.ensures.cases.0 c.loop-point.invariant c.loop-point-test.false,
  λ all. refl,
)
