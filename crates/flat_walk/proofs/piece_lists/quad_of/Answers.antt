use Rattle.std.proofs.Common.{FitsSigned, w64, rules}
use Rattle.std.proofs.lemmas.Int.{to_z-of_z}
use Rattle.half_grid.proofs.ForCallers.{quad_of_shot}
use Rattle.flat_walk.specs.PieceLists.{upright}
use Rattle.flat_walk.proofs.piece_lists.quad_of.Goals as goal

pub new-requires : goal.new-requires
new-requires c =
    let x0 : FitsSigned w64 c.args.frame.x0 = search rules in
    let y0 : FitsSigned w64 c.args.frame.y0 = search rules in
    let x1 : FitsSigned w64 c.args.frame.x1 = search rules in
    let y1 : FitsSigned w64 c.args.frame.y1 = search rules in
    simp to_z-of_z (quad_of_shot (upright c.args.frame) c.requires)
