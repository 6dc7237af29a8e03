use Rattle.std.proofs.Common.{rules, arith, FitsSigned, w64}
use Rattle.std.proofs.lemmas.Int.{ints, to_z-of_z}
use Rattle.field_split.specs.Cutting.{most_fields}
use Rattle.field_split.proofs.in_hand.Ahead.of.Goals as goal

pub invariant_of-result : goal.invariant_of-result
unfolding most_fields
invariant_of-result c =
    let start : FitsSigned w64 c.start.result = search rules in
    let few = c.count.ensures.few in
    record {
      few = few;
      low = simp to_z-of_z c.start.ensures.low;
      high = simp to_z-of_z (omega (arith, ints, few, c.start.ensures.high));
    }
