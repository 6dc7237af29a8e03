use Rattle.std.proofs.Common.{FitsSigned, w64, rules}
use Rattle.std.proofs.lemmas.Int.{to_z-of_z}
use Rattle.density_report.proofs.maps.map_at_end.Goals as goal

pub new-requires-clause-reach : goal.new-requires-clause-reach
new-requires-clause-reach c =
    let fs : FitsSigned w64 c.args.batch.now.mesh.size = search rules in
    let fe : FitsSigned w64 c.args.batch.now.end = search rules in
    simp to_z-of_z c.requires.reach

pub returns : goal.returns
returns c =
    let fs : FitsSigned w64 c.args.batch.now.mesh.size = search rules in
    let fe : FitsSigned w64 c.args.batch.now.end = search rules in
    simp to_z-of_z at c.new.ensures
