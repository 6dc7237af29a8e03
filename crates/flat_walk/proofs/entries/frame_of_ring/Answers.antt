use Rattle.std.proofs.Common.{◌≡◌, length, slice_index_or, pos, FitsSigned, w64, rules, arith}
use Rattle.std.proofs.lemmas.Int.{to_z-of_z}
use Rattle.half_grid.specs.declared.plane.Point.{Point}
use Rattle.flat_walk.proofs.CodeLemmas.{own_frame_is}
use Rattle.flat_walk.proofs.entries.frame_of_ring.Goals as goal

pub returns : goal.returns
returns c =
    let points = c.args.ring in
    let d : Point = record { x = pos 0; y = pos 0 } in
    let long : length points ≡ 5 = search rules in
    let k0 : FitsSigned w64 c.min.result = search rules in
    let k1 : FitsSigned w64 c.min-2.result = search rules in
    let k2 : FitsSigned w64 c.max.result = search rules in
    let k3 : FitsSigned w64 c.max-2.result = search rules in
    let ax : FitsSigned w64 (slice_index_or points 0 d).x = search rules in
    let ay : FitsSigned w64 (slice_index_or points 0 d).y = search rules in
    let cx : FitsSigned w64 (slice_index_or points 2 d).x = search rules in
    let cy : FitsSigned w64 (slice_index_or points 2 d).y = search rules in
    let x0 = simp to_z-of_z at c.min.ensures.value in
    let y0 = simp to_z-of_z at c.min-2.ensures.value in
    let x1 = simp to_z-of_z at c.max.ensures.value in
    let y1 = simp to_z-of_z at c.max-2.ensures.value in
    simp to_z-of_z (own_frame_is points d _ _ _ _ (omega (arith, long)) (omega (arith, long)) x0 y0 x1 y1)
