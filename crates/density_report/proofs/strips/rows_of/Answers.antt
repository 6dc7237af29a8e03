use Rattle.std.proofs.Common.{◌*ℤ◌, FitsSigned, w64, arith, rules}
use Rattle.std.proofs.lemmas.Int.{ints, to_z-of_z}
use Rattle.density_map.proofs.ForCallers.{fits_near}
use Rattle.density_report.proofs.strips.rows_of.Goals as goal

pub unreachable-requires : goal.unreachable-requires
unreachable-requires c =
    let low = c.requires.low in
    let order = c.requires.order in
    let high = c.requires.high in
    let fs : FitsSigned w64 c.args.batch.now.mesh.size = search rules in
    let fr : FitsSigned w64 c.args.batch.now.row = search rules in
    let fe : FitsSigned w64 c.args.batch.now.end = search rules in
    let fb : FitsSigned w64 (c.args.batch.now.row *ℤ c.args.batch.now.mesh.size) =
    fits_near (c.args.batch.now.row *ℤ c.args.batch.now.mesh.size) (omega (arith, ints, low)) (omega (arith, ints, order, high)) in
    let ft : FitsSigned w64 (c.args.batch.now.end *ℤ c.args.batch.now.mesh.size) =
    fits_near (c.args.batch.now.end *ℤ c.args.batch.now.mesh.size) (omega (arith, ints, low, order)) (omega (arith, ints, high)) in
    let out = simp to_z-of_z at c.in-None.ensures in
    out order

pub returns : goal.returns
returns c =
    let low = c.requires.low in
    let order = c.requires.order in
    let high = c.requires.high in
    let fs : FitsSigned w64 c.args.batch.now.mesh.size = search rules in
    let fr : FitsSigned w64 c.args.batch.now.row = search rules in
    let fe : FitsSigned w64 c.args.batch.now.end = search rules in
    let fb : FitsSigned w64 (c.args.batch.now.row *ℤ c.args.batch.now.mesh.size) =
    fits_near (c.args.batch.now.row *ℤ c.args.batch.now.mesh.size) (omega (arith, ints, low)) (omega (arith, ints, order, high)) in
    let ft : FitsSigned w64 (c.args.batch.now.end *ℤ c.args.batch.now.mesh.size) =
    fits_near (c.args.batch.now.end *ℤ c.args.batch.now.mesh.size) (omega (arith, ints, low, order)) (omega (arith, ints, high)) in
    let is = simp to_z-of_z at c.in-Some.ensures in
    is.1
