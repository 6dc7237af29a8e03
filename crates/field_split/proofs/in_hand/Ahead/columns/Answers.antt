use Rattle.std.proofs.Common.{rules, arith, refl, ◌+ℤ◌, FitsSigned, w64}
use Rattle.std.proofs.lemmas.Int.{ints, to_z-of_z}
use Rattle.field_split.proofs.Numbers.{fits_by}
use Rattle.field_split.proofs.in_hand.Ahead.columns.Goals as goal

pub overflow_add-result : goal.overflow_add-result
overflow_add-result c =
    let x : FitsSigned w64 c.args.self.x = search rules in
    let size : FitsSigned w64 c.args.stripe.size = search rules in
    let low = c.args.self.low in
    let high = c.args.self.high in
    let sized = c.args.stripe.sized in
    let next : FitsSigned w64 (c.args.self.x +ℤ c.args.stripe.size) = fits_by _ (omega (arith, ints, low, sized.least))
    (omega (arith, ints, high, sized.most)) in
    simp to_z-of_z next

pub returns-clause-value : goal.returns-clause-value
returns-clause-value c =
    let x : FitsSigned w64 c.args.self.x = search rules in
    let size : FitsSigned w64 c.args.stripe.size = search rules in
    let low = c.args.self.low in
    let high = c.args.self.high in
    let sized = c.args.stripe.sized in
    let next : FitsSigned w64 (c.args.self.x +ℤ c.args.stripe.size) = fits_by _ (omega (arith, ints, low, sized.least))
    (omega (arith, ints, high, sized.most)) in
    simp to_z-of_z refl

pub returns-clause-near : goal.returns-clause-near
returns-clause-near c =
    let x : FitsSigned w64 c.args.self.x = search rules in
    let size : FitsSigned w64 c.args.stripe.size = search rules in
    let low = c.args.self.low in
    let high = c.args.self.high in
    let sized = c.args.stripe.sized in
    let next : FitsSigned w64 (c.args.self.x +ℤ c.args.stripe.size) = fits_by _ (omega (arith, ints, low, sized.least))
    (omega (arith, ints, high, sized.most)) in
    simp to_z-of_z (record {
      some = omega (arith, ints, sized.least);
      first = record { low = omega (arith, ints, low); high = omega (arith, ints, high) };
      last = record { low = omega (arith, ints, low, sized.least); high = omega (arith, ints, high, sized.most) };
    })
