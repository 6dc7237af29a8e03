use Rattle.std.proofs.Common.{FitsSigned, w64, rules}
use Rattle.std.proofs.lemmas.Int.{to_z-of_z}
use Rattle.density_map.proofs.ForCallers.{floor_is}
use Rattle.density_report.proofs.strips.row_of.Goals as goal

pub returns-clause-from : goal.returns-clause-from
returns-clause-from c =
    let fy : FitsSigned w64 c.args.y = search rules in
    let fs : FitsSigned w64 c.args.mesh.now.size = search rules in
    let fr : FitsSigned w64 c.div_euclid.result = search rules in
    let e = simp to_z-of_z at c.div_euclid.ensures in
    simp to_z-of_z ((floor_is c.args.mesh.now.size c.args.y c.div_euclid.result c.requires.size c.requires.y e).from)

pub returns-clause-below : goal.returns-clause-below
returns-clause-below c =
    let fy : FitsSigned w64 c.args.y = search rules in
    let fs : FitsSigned w64 c.args.mesh.now.size = search rules in
    let fr : FitsSigned w64 c.div_euclid.result = search rules in
    let e = simp to_z-of_z at c.div_euclid.ensures in
    simp to_z-of_z ((floor_is c.args.mesh.now.size c.args.y c.div_euclid.result c.requires.size c.requires.y e).below)

pub returns-clause-near : goal.returns-clause-near
returns-clause-near c =
    let fy : FitsSigned w64 c.args.y = search rules in
    let fs : FitsSigned w64 c.args.mesh.now.size = search rules in
    let fr : FitsSigned w64 c.div_euclid.result = search rules in
    let e = simp to_z-of_z at c.div_euclid.ensures in
    simp to_z-of_z ((floor_is c.args.mesh.now.size c.args.y c.div_euclid.result c.requires.size c.requires.y e).near)
