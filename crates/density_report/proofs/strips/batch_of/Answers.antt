use Rattle.std.proofs.Common.{pos, ◌+ℤ◌, ◌-ℤ◌, FitsSigned, w64, arith, rules}
use Rattle.std.proofs.lemmas.Int.{ints, to_z-of_z}
use Rattle.density_map.proofs.ForCallers.{fits_near}
use Rattle.density_report.proofs.StripLemmas.{hold_rows}
use Rattle.density_report.proofs.strips.batch_of.Goals as goal

pub returns-clause-rows : goal.returns-clause-rows
returns-clause-rows c =
    let e = c.y0.ensures.value in
    let f = c.y1.ensures.value in
    let low = c.requires.near.low in
    let high = c.requires.near.high in
    let window = c.requires.near.window in
    let near = c.row_of-2.ensures.near in
    let fl : FitsSigned w64 c.y0.result = search rules in
    let fg : FitsSigned w64 c.y1.result = search rules in
    let fq : FitsSigned w64 c.row_of.result = search rules in
    let fr : FitsSigned w64 c.row_of-2.result = search rules in
    let fh : FitsSigned w64 (c.y1.result -ℤ pos 1) = fits_near (c.y1.result -ℤ pos 1) (omega (arith, ints, f, low, window)) (omega (arith, ints, f, high)) in
    let fn : FitsSigned w64 (c.row_of-2.result +ℤ pos 1) = fits_near (c.row_of-2.result +ℤ pos 1)
    (omega (arith, ints, near.low)) (omega (arith, ints, near.high)) in
    let a = simp to_z-of_z at c.row_of.ensures.from in
    let b = simp to_z-of_z at c.row_of.ensures.below in
    let p = simp to_z-of_z at c.row_of-2.ensures.from in
    let q = simp to_z-of_z at c.row_of-2.ensures.below in
    simp to_z-of_z (hold_rows c.args.mesh.now.size c.args.rows c.y0.result c.y1.result c.row_of.result
    c.row_of-2.result e f a b c.row_of.ensures.near p q c.row_of-2.ensures.near)
