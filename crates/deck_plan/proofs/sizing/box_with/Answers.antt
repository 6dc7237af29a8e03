use Rattle.std.proofs.Common.{◌∙◌, ap, w64, FitsSigned, rules}
use Rattle.std.proofs.lemmas.Int.{to_z-of_z}
use Rattle.std.specs.Int.{int_min, int_max}
use Rattle.deck_plan.proofs.sizing.box_with.Goals as goal

pub returns-clause-left : goal.returns-clause-left
returns-clause-left c =
    let result : FitsSigned w64 c.min.result = search rules in
    let hull : FitsSigned w64 c.args.hull.now.x0 = search rules in
    let own : FitsSigned w64 c.least_x.result = search rules in
    let least = simp to_z-of_z at c.min.ensures.value in
    simp to_z-of_z (least ∙ ap (int_min c.args.hull.now.x0) c.least_x.ensures.value)

pub returns-clause-bottom : goal.returns-clause-bottom
returns-clause-bottom c =
    let result : FitsSigned w64 c.min-2.result = search rules in
    let hull : FitsSigned w64 c.args.hull.now.y0 = search rules in
    let own : FitsSigned w64 c.y0.result = search rules in
    let least = simp to_z-of_z at c.min-2.ensures.value in
    simp to_z-of_z (least ∙ ap (int_min c.args.hull.now.y0) c.y0.ensures.value)

pub returns-clause-right : goal.returns-clause-right
returns-clause-right c =
    let result : FitsSigned w64 c.max.result = search rules in
    let hull : FitsSigned w64 c.args.hull.now.x1 = search rules in
    let own : FitsSigned w64 c.greatest_x.result = search rules in
    let greatest = simp to_z-of_z at c.max.ensures.value in
    simp to_z-of_z (greatest ∙ ap (int_max c.args.hull.now.x1) c.greatest_x.ensures.value)
