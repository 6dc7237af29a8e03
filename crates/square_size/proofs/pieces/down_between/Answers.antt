use Rattle.std.proofs.Common.{FitsSigned, w64, rules}
use Rattle.std.proofs.lemmas.Int.{to_z-of_z}
use Rattle.square_size.proofs.Uprights.{down_edge, upright_down}
use Rattle.square_size.proofs.pieces.down_between.Goals as goal

pub of-requires : goal.of-requires
of-requires c =
    let x : FitsSigned w64 c.args.a.x = search rules in
    let y : FitsSigned w64 c.args.a.y = search rules in
    let end : FitsSigned w64 c.args.b.y = search rules in
    simp to_z-of_z (down_edge c.args.a c.args.b c.requires.first c.requires.second c.requires.upright c.requires.down)

pub returns : goal.returns
returns c =
    let x : FitsSigned w64 c.args.a.x = search rules in
    let y : FitsSigned w64 c.args.a.y = search rules in
    let end : FitsSigned w64 c.args.b.y = search rules in
    let made = simp to_z-of_z at c.of.ensures in
    upright_down c.args.a c.args.b c.of.result c.requires.upright c.requires.down made
