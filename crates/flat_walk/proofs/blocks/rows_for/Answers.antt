use Rattle.std.proofs.Common.{refl, rules, arith, w64, FitsSigned}
use Rattle.std.proofs.lemmas.Int.{ints, to_z-of_z}
use Rattle.flat_walk.specs.Blocks.{AreRowsFor}
use Rattle.flat_walk.proofs.BlockLemmas.{both_some, rows_hide}
use Rattle.flat_walk.proofs.blocks.rows_for.Goals as goal

pub returns : goal.returns
returns c =
    let y0 : FitsSigned w64 c.y0.result = search rules in
    let y1 : FitsSigned w64 c.y1.result = search rules in
    let bottom : FitsSigned w64 c.in_ok-checked_sub.field-0 = search rules in
    let top : FitsSigned w64 c.in_ok-checked_sub-2.field-0 = search rules in
    let first = simp to_z-of_z at c.in_ok-checked_sub.ensures in
    let second = simp to_z-of_z at c.in_ok-checked_sub-2.ensures in
    let below = c.y0.ensures.value in
    let above = c.y1.ensures.value in
    both_some c.round.result _ _ (AreRowsFor c.args.window c.args.orient c.args.at) c.round.ensures.low c.round.ensures.high
    (λ rows under over. rows_hide c.args.window c.args.orient c.args.at _ _ rows (c.if-not-is_plain.ensures refl)
    (simp to_z-of_z (omega (arith, ints, first, below))) (simp to_z-of_z (omega (arith, ints, second, above))) under over)
