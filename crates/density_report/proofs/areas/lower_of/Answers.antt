use Rattle.std.proofs.Common.{FitsSigned, w64, rules, arith}
use Rattle.std.proofs.lemmas.Int.{ints, to_z-of_z}
use Rattle.density_report.proofs.AreaLemmas.{lower_below, lower_greatest}
use Rattle.density_report.proofs.areas.lower_of.Goals as goal

pub returns-then-first-row-clause-below : goal.returns-then-first-row-clause-below
returns-then-first-row-clause-below c =
    let fy : FitsSigned w64 c.y0.result = search rules in
    let fo : FitsSigned w64 c.args.first.now.row = search rules in
    let fs : FitsSigned w64 c.args.first.now.size = search rules in
    let fr : FitsSigned w64 c.row_of-row.result = search rules in
    let from = simp to_z-of_z at c.row_of-row.ensures.from in
    let test = simp to_z-of_z at c.if-first-row.true in
    lower_below c.args.first.now c.args.trap.now c.row_of-row.result c.y0.result c.requires c.y0.ensures.value from (omega (arith, ints, test))

pub returns-clause-greatest : goal.returns-clause-greatest
returns-clause-greatest c =
    let fy : FitsSigned w64 c.y0.result = search rules in
    let fo : FitsSigned w64 c.args.first.now.row = search rules in
    let fs : FitsSigned w64 c.args.first.now.size = search rules in
    let fr : FitsSigned w64 c.row_of-row.result = search rules in
    let below = simp to_z-of_z at c.row_of-row.ensures.below in
    simp to_z-of_z (lower_greatest c.args.first.now c.args.trap.now c.row_of-row.result c.y0.result c.requires c.y0.ensures.value below)
