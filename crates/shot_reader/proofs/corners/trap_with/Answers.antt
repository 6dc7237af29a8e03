use Rattle.std.proofs.Common.{FitsSigned, w64, rules, sym, subst}
use Rattle.std.proofs.lemmas.Int.{to_z-of_z}
use Rattle.half_grid.specs.Trapezoids.{Trapezoid, trapezoid, IsShot}
use Rattle.shot_reader.proofs.Shapes.{same_trap}
use Rattle.shot_reader.proofs.corners.trap_with.Goals as goal

pub returns-clause-all : goal.returns-clause-all
returns-clause-all c = λ z shot k.
    let low : FitsSigned w64 c.args.corners.now.bottom_left.y = search rules in
    let high : FitsSigned w64 c.args.corners.now.top_left.y = search rules in
    let made = simp to_z-of_z at c.new.ensures in
    let left = c.in_ok-left.ensures.through in
    let right = c.in_ok-right.ensures.through in
    let own : IsShot (trapezoid c.args.corners.now.bottom_left.y c.args.corners.now.top_left.y c.in_ok-left.left c.in_ok-right.right) =
    subst (λ (t : Trapezoid). IsShot t)
    (sym (same_trap c.args.corners.now z c.in_ok-left.left c.in_ok-right.right shot k left.0 left.1 right.0
    right.1)) shot in
    search rules
