use Rattle.std.proofs.Common.{w64, FitsSigned, rules, arith}
use Rattle.std.proofs.lemmas.Int.{ints, to_z-of_z}
use Rattle.deck_plan.proofs.extents.joined_rows.Goals as goal

pub unreachable-requires : goal.unreachable-requires
unreachable-requires c =
    let min : FitsSigned w64 c.min.result = search rules in
    let max : FitsSigned w64 c.max.result = search rules in
    let a : FitsSigned w64 c.y0.result = search rules in
    let b : FitsSigned w64 c.y1.result = search rules in
    let low = simp to_z-of_z at c.min.ensures.self_bound in
    let high = simp to_z-of_z at c.max.ensures.self_bound in
    let none = simp to_z-of_z at c.in-None.ensures in
    none (omega (arith, ints, low, high, c.y0.ensures.value, c.y1.ensures.value, c.y0.ensures.window))
