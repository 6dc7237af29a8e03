use Rattle.std.proofs.Common.{rules, FitsSigned, w64}
use Rattle.std.proofs.lemmas.Int.{to_z-of_z}
use Rattle.field_output.proofs.PlaceLemmas.{as_count, count_below}
use Rattle.field_output.proofs.places.Span.place_of.Goals as goal

pub returns-clause-value : goal.returns-clause-value
returns-clause-value c =
    let above : FitsSigned w64 c.above_first.result = search rules in
    let row : FitsSigned w64 c.args.y = search rules in
    let is = simp to_z-of_z at c.above_first.ensures.value in
    simp to_z-of_z (as_count c.above_first.result _ is)

pub returns-clause-range : goal.returns-clause-range
returns-clause-range c =
    let above : FitsSigned w64 c.above_first.result = search rules in
    simp to_z-of_z (count_below c.above_first.result c.args.self.count c.above_first.ensures.low c.above_first.ensures.high)
