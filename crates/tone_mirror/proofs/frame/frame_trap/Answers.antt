use Rattle.std.proofs.Common.{◌↔◌, w64, FitsSigned, rules, subst, sym}
use Rattle.std.proofs.lemmas.Int.{to_z-of_z}
use Rattle.half_grid.specs.Trapezoids.{Trapezoid, IsInTrapezoid}
use Rattle.tone_mirror.specs.Frames.{IsInFrame}
use Rattle.tone_mirror.proofs.FrameLemmas.{rectangle_has_tile}
use Rattle.tone_mirror.proofs.frame.frame_trap.Goals as goal

pub returns-clause-tiles : goal.returns-clause-tiles
returns-clause-tiles c = λ t.
    let y0 : FitsSigned w64 c.args.frame.now.y0 = search rules in
    let y1 : FitsSigned w64 c.args.frame.now.y1 = search rules in
    let x0 : FitsSigned w64 c.args.frame.now.x0 = search rules in
    let x1 : FitsSigned w64 c.args.frame.now.x1 = search rules in
    let value = simp to_z-of_z at c.of.ensures in
    subst (λ (z : Trapezoid). IsInTrapezoid z t ↔ IsInFrame c.args.frame.now t) (sym value) (rectangle_has_tile c.args.frame.now t)
