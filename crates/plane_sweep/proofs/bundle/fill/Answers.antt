use Rattle.std.proofs.Common.{FitsSigned, w64, rules}
use Rattle.std.proofs.lemmas.Int.{to_z-of_z}
use Rattle.plane_sweep.proofs.FillLemmas.{three_put}
use Rattle.plane_sweep.proofs.bundle.fill.Goals as goal

pub returns : goal.returns
returns c =
    let x : FitsSigned w64 c.args.point.x = search rules in
    let lines = simp to_z-of_z at c.in_ok-upright.ensures.lines in
    three_put c.args.point.y c.args.point.x c.args.bundle c.args.left c.in_ok-falling.falling c.in_ok-upright.upright
    c.in_ok-rising.rising c.falling_at.result c.rising_at.result
    _ _ _ _ c.falling_at.ensures c.rising_at.ensures c.clear.ensures.items c.in_ok-falling.ensures.lines
    c.in_ok-falling.ensures.right lines c.in_ok-upright.ensures.right
    c.in_ok-rising.ensures.lines c.in_ok-rising.ensures.right
