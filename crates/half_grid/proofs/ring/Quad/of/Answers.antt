use Rattle.std.proofs.Common.{◌≡◌, ◌∙◌, w64, FitsSigned, rules}
use Rattle.std.proofs.lemmas.Int.{to_z-of_z}
use Rattle.half_grid.specs.Quads.{corners_of}
use Rattle.half_grid.proofs.RingLemmas.{quad_of_shot, corners_at, ring_inside, ring_outside}
use Rattle.half_grid.proofs.ring.Quad.of.Goals as goal

pub new-requires : goal.new-requires
new-requires c =
    let bottom : FitsSigned w64 c.y0-bottom.result = search rules in
    let top : FitsSigned w64 c.y1-top.result = search rules in
    let bottom_left : FitsSigned w64 c.bottom_left.result = search rules in
    let top_left : FitsSigned w64 c.top_left.result = search rules in
    let top_right : FitsSigned w64 c.top_right.result = search rules in
    let bottom_right : FitsSigned w64 c.bottom_right.result = search rules in
    let e = corners_at c.args.trap.now _ _ _ _ _ _ c.y0-bottom.ensures.value c.y1-top.ensures.value
    c.bottom_left.ensures.value c.top_left.ensures.value c.top_right.ensures.value c.bottom_right.ensures.value
    in
    simp to_z-of_z (rw e (quad_of_shot c.args.trap.now c.y0-bottom.ensures.shot))

pub returns : goal.returns
returns c =
    let bottom : FitsSigned w64 c.y0-bottom.result = search rules in
    let top : FitsSigned w64 c.y1-top.result = search rules in
    let bottom_left : FitsSigned w64 c.bottom_left.result = search rules in
    let top_left : FitsSigned w64 c.top_left.result = search rules in
    let top_right : FitsSigned w64 c.top_right.result = search rules in
    let bottom_right : FitsSigned w64 c.bottom_right.result = search rules in
    let made = simp to_z-of_z at c.new.ensures in
    let e : c.new.result ≡ corners_of c.args.trap.now =
    made ∙ corners_at c.args.trap.now _ _ _ _ _ _ c.y0-bottom.ensures.value c.y1-top.ensures.value
    c.bottom_left.ensures.value c.top_left.ensures.value c.top_right.ensures.value c.bottom_right.ensures.value
    in
    record {
      corners = e;
      inside = λ t h. rw e (ring_inside c.args.trap.now t c.y0-bottom.ensures.shot.legal h);
      outside = λ t h. rw e (ring_outside c.args.trap.now t c.y0-bottom.ensures.shot.legal h);
    }
