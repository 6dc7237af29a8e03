use Rattle.std.proofs.Common.{◌↔◌, w64, FitsSigned, subst, sym, rules}
use Rattle.std.proofs.lemmas.Int.{to_z-of_z}
use Rattle.half_grid.specs.Trapezoids.{Trapezoid, IsInTrapezoid}
use Rattle.half_grid.proofs.ForCallers.{strip_within}
use Rattle.tone_mirror.specs.Mirrors.{mirrored_tile}
use Rattle.tone_mirror.proofs.ImageLemmas.{mirror_within, image_is_shot, image_has_tile}
use Rattle.tone_mirror.proofs.mirror.mirrored.Goals as goal

pub mirrored_line-left-requires : goal.mirrored_line-left-requires
mirrored_line-left-requires c =
    let z = c.args.trap.now in
    let shot = c.right.ensures.shot in
    let m : FitsSigned w64 c.args.m = c.ranges.m in
    record {
      line = rw c.right.ensures.value (strip_within c.args.trap.now.right c.args.trap.now.y0 shot.reach.y0 shot.reach.bottom_right);
      mirror = simp to_z-of_z (mirror_within c.args.m c.args.trap.now shot c.requires);
    }

pub mirrored_line-right-requires-clause-line : goal.mirrored_line-right-requires-clause-line
mirrored_line-right-requires-clause-line c =
    let shot = c.left.ensures.shot in
    rw c.left.ensures.value (strip_within c.args.trap.now.left c.args.trap.now.y0 shot.reach.y0 shot.reach.bottom_left)

pub mirrored_line-right-requires-clause-mirror : goal.mirrored_line-right-requires-clause-mirror
mirrored_line-right-requires-clause-mirror c =
    let m : FitsSigned w64 c.args.m = c.ranges.m in
    simp to_z-of_z (mirror_within c.args.m c.args.trap.now c.left.ensures.shot c.requires)

pub of-requires : goal.of-requires
of-requires c =
    let m : FitsSigned w64 c.args.m = c.ranges.m in
    let y0 : FitsSigned w64 c.y0.result = search rules in
    let y1 : FitsSigned w64 c.y1.result = search rules in
    let left = simp to_z-of_z at c.mirrored_line-left.ensures in
    let right = simp to_z-of_z at c.mirrored_line-right.ensures in
    simp to_z-of_z
    (simp (left, right, c.right.ensures.value, c.left.ensures.value, c.y0.ensures.value, c.y1.ensures.value)
    (image_is_shot c.args.m c.args.trap.now c.y0.ensures.shot c.requires))

pub returns-clause-image : goal.returns-clause-image
returns-clause-image c =
    let m : FitsSigned w64 c.args.m = c.ranges.m in
    let y0 : FitsSigned w64 c.y0.result = search rules in
    let y1 : FitsSigned w64 c.y1.result = search rules in
    let left = simp to_z-of_z at c.mirrored_line-left.ensures in
    let right = simp to_z-of_z at c.mirrored_line-right.ensures in
    let made = simp to_z-of_z at c.of.ensures in
    simp (left, right, c.right.ensures.value, c.left.ensures.value, c.y0.ensures.value, c.y1.ensures.value) at made

pub returns-clause-tiles : goal.returns-clause-tiles
returns-clause-tiles c = λ t.
    subst (λ (z : Trapezoid). IsInTrapezoid z t ↔ IsInTrapezoid c.args.trap.now (mirrored_tile c.args.m t))
    (sym (returns-clause-image c)) (image_has_tile c.args.m c.args.trap.now t)
