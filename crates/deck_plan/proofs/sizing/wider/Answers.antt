use Rattle.std.proofs.Common.{w64, FitsSigned, rules, ◌-ℤ◌, ◌+ℤ◌}
use Rattle.std.proofs.lemmas.Int.{to_z-of_z}
use Rattle.deck_plan.proofs.sizing.wider.Goals as goal

pub returns : goal.returns
returns c =
    let dx : FitsSigned w64 c.args.dx = c.ranges.dx in
    let dy : FitsSigned w64 c.args.dy = c.ranges.dy in
    let x0 : FitsSigned w64 c.args.hull.now.x0 = search rules in
    let y0 : FitsSigned w64 c.args.hull.now.y0 = search rules in
    let x1 : FitsSigned w64 c.args.hull.now.x1 = search rules in
    let y1 : FitsSigned w64 c.args.hull.now.y1 = search rules in
    let left : FitsSigned w64 (c.args.hull.now.x0 -ℤ c.args.dx) = search rules in
    let bottom : FitsSigned w64 (c.args.hull.now.y0 -ℤ c.args.dy) = search rules in
    let right : FitsSigned w64 (c.args.hull.now.x1 +ℤ c.args.dx) = search rules in
    let top : FitsSigned w64 (c.args.hull.now.y1 +ℤ c.args.dy) = search rules in
    simp to_z-of_z
