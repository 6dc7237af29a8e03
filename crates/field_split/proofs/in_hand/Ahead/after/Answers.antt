use Rattle.std.proofs.Common.{rules, arith, ◌+ℤ◌, FitsSigned, w64}
use Rattle.std.proofs.lemmas.Int.{ints, to_z-of_z}
use Rattle.field_split.specs.Pieces.{shape_of}
use Rattle.field_split.proofs.Numbers.{fits_by}
use Rattle.field_split.proofs.HandLemmas.{across_next}
use Rattle.field_split.proofs.in_hand.Ahead.after.Goals as goal

pub overflow_add-result : goal.overflow_add-result
overflow_add-result c =
    let x : FitsSigned w64 c.args.self.x = search rules in
    let size : FitsSigned w64 c.args.stripe.size = search rules in
    let low = c.args.self.low in
    let high = c.args.self.high in
    let sized = c.args.stripe.sized in
    let next : FitsSigned w64 (c.args.self.x +ℤ c.args.stripe.size) = fits_by _ (omega (arith, ints, low, sized.least))
    (omega (arith, ints, high, sized.most)) in
    simp to_z-of_z next

pub invariant_of-result : goal.invariant_of-result
invariant_of-result c =
    let x : FitsSigned w64 c.args.self.x = search rules in
    let size : FitsSigned w64 c.args.stripe.size = search rules in
    let low = c.args.self.low in
    let high = c.args.self.high in
    let sized = c.args.stripe.sized in
    let next : FitsSigned w64 (c.args.self.x +ℤ c.args.stripe.size) = fits_by _ (omega (arith, ints, low, sized.least))
    (omega (arith, ints, high, sized.most)) in
    let few = c.args.self.few in
    record {
      few = omega (arith, few);
      low = simp to_z-of_z (omega (arith, ints, low, sized.least));
      high =
          simp to_z-of_z (omega (arith, ints, high, sized.most, c.requires));
    }

pub returns-clause-pieces : goal.returns-clause-pieces
returns-clause-pieces c =
    let x : FitsSigned w64 c.args.self.x = search rules in
    let size : FitsSigned w64 c.args.stripe.size = search rules in
    let low = c.args.self.low in
    let high = c.args.self.high in
    let sized = c.args.stripe.sized in
    let next : FitsSigned w64 (c.args.self.x +ℤ c.args.stripe.size) = fits_by _ (omega (arith, ints, low, sized.least))
    (omega (arith, ints, high, sized.most)) in
    simp to_z-of_z (across_next c.args.stripe.size (shape_of c.args.self.part) c.args.self.fields c.args.self.x c.requires)
