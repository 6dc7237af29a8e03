use Rattle.std.proofs.Common.{pos, ◌+ℤ◌, ◌-ℤ◌, FitsSigned, w64, arith, rules}
use Rattle.std.proofs.lemmas.Int.{ints, to_z-of_z}
use Rattle.density_map.proofs.FloorLemmas.{fits_near}
use Rattle.density_map.proofs.AddLemmas.{columns_are, low_side, high_side}
use Rattle.density_map.proofs.rows.columns_of.Goals as goal

pub returns-clause-columns : goal.returns-clause-columns
returns-clause-columns c =
    let fl : FitsSigned w64 c.least_x.result = search rules in
    let fg : FitsSigned w64 c.greatest_x.result = search rules in
    let fq : FitsSigned w64 c.column_at.result = search rules in
    let fr : FitsSigned w64 c.column_at-2.result = search rules in
    let fh : FitsSigned w64 (c.greatest_x.result -ℤ pos 1) = fits_near (c.greatest_x.result -ℤ pos 1)
    (omega (arith, ints, c.greatest_x.ensures.reach.low))
    (omega (arith, ints, c.greatest_x.ensures.reach.high)) in
    let fn : FitsSigned w64 (c.column_at-2.result +ℤ pos 1) = fits_near (c.column_at-2.result +ℤ pos 1)
    (omega (arith, ints, c.column_at-2.ensures.near.low))
    (omega (arith, ints, c.column_at-2.ensures.near.high)) in
    let a = simp to_z-of_z at c.column_at.ensures.from in
    let b = simp to_z-of_z at c.column_at.ensures.below in
    let d = simp to_z-of_z at c.column_at-2.ensures.from in
    let e = simp to_z-of_z at c.column_at-2.ensures.below in
    simp to_z-of_z (columns_are c.args.strip.now.size c.args.trap.now c.least_x.result c.greatest_x.result
    c.column_at.result c.column_at-2.result c.least_x.ensures.value c.greatest_x.ensures.value a b d e)

pub returns-clause-low : goal.returns-clause-low
returns-clause-low c =
    let fl : FitsSigned w64 c.least_x.result = search rules in
    let fq : FitsSigned w64 c.column_at.result = search rules in
    let b = simp to_z-of_z at c.column_at.ensures.below in
    simp to_z-of_z (low_side c.args.strip.now.size c.column_at.result c.least_x.result c.requires c.least_x.ensures.reach.low b)

pub returns-clause-high : goal.returns-clause-high
returns-clause-high c =
    let fg : FitsSigned w64 c.greatest_x.result = search rules in
    let fr : FitsSigned w64 c.column_at-2.result = search rules in
    let fh : FitsSigned w64 (c.greatest_x.result -ℤ pos 1) = fits_near (c.greatest_x.result -ℤ pos 1)
    (omega (arith, ints, c.greatest_x.ensures.reach.low))
    (omega (arith, ints, c.greatest_x.ensures.reach.high)) in
    let fn : FitsSigned w64 (c.column_at-2.result +ℤ pos 1) = fits_near (c.column_at-2.result +ℤ pos 1)
    (omega (arith, ints, c.column_at-2.ensures.near.low))
    (omega (arith, ints, c.column_at-2.ensures.near.high)) in
    let d = simp to_z-of_z at c.column_at-2.ensures.from in
    simp to_z-of_z (high_side c.args.strip.now.size c.column_at-2.result c.greatest_x.result c.greatest_x.ensures.reach.high d)
