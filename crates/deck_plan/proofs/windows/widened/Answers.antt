use Rattle.std.proofs.Common.{◌∙◌, refl, ◌-ℤ◌, ◌+ℤ◌, w64, FitsSigned, rules, arith}
use Rattle.std.proofs.lemmas.Int.{ints, to_z-of_z}
use Rattle.deck_plan.proofs.windows.widened.Goals as goal

pub unreachable-requires : goal.unreachable-requires
unreachable-requires c =
    let by : FitsSigned w64 c.args.by = c.ranges.by in
    let y0 : FitsSigned w64 c.y0.result = search rules in
    let y1 : FitsSigned w64 c.y1.result = search rules in
    let low : FitsSigned w64 (c.y0.result -ℤ c.args.by) = search rules in
    let high : FitsSigned w64 (c.y1.result +ℤ c.args.by) = search rules in
    let none = simp to_z-of_z at c.in-None.ensures in
    none (omega (arith, ints, c.y0.ensures.value, c.y1.ensures.value, c.y0.ensures.window, c.requires.some))

pub returns : goal.returns
returns c =
    let by : FitsSigned w64 c.args.by = c.ranges.by in
    let y0 : FitsSigned w64 c.y0.result = search rules in
    let y1 : FitsSigned w64 c.y1.result = search rules in
    let low : FitsSigned w64 (c.y0.result -ℤ c.args.by) = search rules in
    let high : FitsSigned w64 (c.y1.result +ℤ c.args.by) = search rules in
    let value = simp to_z-of_z at c.in-Some.ensures in
    value.1 ∙ rw (c.y0.ensures.value, c.y1.ensures.value) refl
