use Rattle.std.proofs.Common.{◌∙◌, sym, ap, subst, Some, map, ◌≡◌, false}
use Rattle.half_grid.specs.Quads.{IsQuad, corners_of}
use Rattle.flat_walk.specs.PieceLists.{listed}
use Rattle.flat_walk.specs.Quads.{quad_image, has_row_in}
use Rattle.flat_walk.specs.Hands.{hand_list}
use Rattle.flat_walk.proofs.RestLemmas.{hand_head, hand_tail, hand_skip}
use Rattle.flat_walk.proofs.owned.Hand.next.Goals as goal

pub placed-quad-requires-clause-quad : goal.placed-quad-requires-clause-quad
placed-quad-requires-clause-quad c =
    let h = c.loop-corners.self in
    let next = c.in-Some.ensures.next in
    subst (λ q. IsQuad (quad_image h.orient h.at q)) (sym next.corners)
    (hand_head h.orient h.at (listed h.pieces) (listed c.next.new.self) next.piece next.is c.loop-corners.invariant.quads)

pub loop-corners-preserved : goal.loop-corners-preserved
loop-corners-preserved c =
    let h = c.loop-corners.self in
    let next = c.in-Some.ensures.next in
    let off : has_row_in c.args.window (quad_image h.orient h.at (corners_of next.piece)) ≡ false =
    ap (λ q. has_row_in c.args.window (quad_image h.orient h.at q)) (sym next.corners)
    ∙ (ap (has_row_in c.args.window) (sym c.placed-quad.ensures) ∙ (sym c.has_row.ensures ∙ c.if-has_row.false)) in
    record {
      hand = record { orient = c.loop-corners.invariant.hand.orient; near = c.loop-corners.invariant.hand.near; shots = c.in-Some.ensures.shots };
      skips = hand_skip c.args.window
          (map Some (hand_list c.args.self.now)) h.orient h.at (listed h.pieces) (listed c.next.new.self)
          next.piece next.is off c.loop-corners.invariant.skips;
      quads = hand_tail h.orient h.at (listed h.pieces) (listed c.next.new.self) next.piece next.is c.loop-corners.invariant.quads;
    }
