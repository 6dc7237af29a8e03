use Rattle.std.proofs.Common.{FitsSigned, w64, rules}
use Rattle.std.proofs.lemmas.Int.{to_z-of_z}
use Rattle.density_map.proofs.FloorLemmas.{floor_is}
use Rattle.density_map.proofs.rows.column_at.Goals as goal

pub returns-clause-from : goal.returns-clause-from
returns-clause-from c =
    let fx : FitsSigned w64 c.args.x = search rules in
    let fs : FitsSigned w64 c.args.strip.now.size = search rules in
    let fr : FitsSigned w64 c.div_euclid.result = search rules in
    let e = simp to_z-of_z at c.div_euclid.ensures in
    simp to_z-of_z ((floor_is c.args.strip.now.size c.args.x c.div_euclid.result c.requires.size c.requires.x e).from)

pub returns-clause-below : goal.returns-clause-below
returns-clause-below c =
    let fx : FitsSigned w64 c.args.x = search rules in
    let fs : FitsSigned w64 c.args.strip.now.size = search rules in
    let fr : FitsSigned w64 c.div_euclid.result = search rules in
    let e = simp to_z-of_z at c.div_euclid.ensures in
    simp to_z-of_z ((floor_is c.args.strip.now.size c.args.x c.div_euclid.result c.requires.size c.requires.x e).below)

pub returns-clause-near : goal.returns-clause-near
returns-clause-near c =
    let fx : FitsSigned w64 c.args.x = search rules in
    let fs : FitsSigned w64 c.args.strip.now.size = search rules in
    let fr : FitsSigned w64 c.div_euclid.result = search rules in
    let e = simp to_z-of_z at c.div_euclid.ensures in
    simp to_z-of_z ((floor_is c.args.strip.now.size c.args.x c.div_euclid.result c.requires.size c.requires.x e).near)
