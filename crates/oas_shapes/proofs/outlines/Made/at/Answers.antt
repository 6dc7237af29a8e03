use Rattle.std.proofs.Common.{IsTrue, map, sym, subst, arith}
use Rattle.layout_model.specs.Images.{moved}
use Rattle.oas_shapes.specs.Plane.{IsNearInHalves}
use Rattle.oas_shapes.specs.Rules.{AreNear}
use Rattle.oas_shapes.proofs.MoveLemmas.{low_moved, high_moved, near_by_corners, all_reach}
use Rattle.oas_shapes.proofs.outlines.Made.at.Goals as goal

pub returns-then-not-is_near-clause-far : goal.returns-then-not-is_near-clause-far
returns-then-not-is_near-clause-far c = λ e near.
    let outline = c.args.self.now.outline in
    let there = subst (λ w. AreNear (map (moved w) outline)) (sym c.way-by.ensures) near in
    let low = low_moved outline c.way-by.result c.hull-hull.result c.hull-hull.ensures there in
    let yes : IsTrue c.is_near.result = c.is_near.ensures.1 (subst IsNearInHalves (sym c.low_after.ensures) low) in
    absurd (grind (arith, yes, c.if-not-is_near.true))

pub returns-then-not-is_near-2-clause-far : goal.returns-then-not-is_near-2-clause-far
returns-then-not-is_near-2-clause-far c = λ e near.
    let outline = c.args.self.now.outline in
    let there = subst (λ w. AreNear (map (moved w) outline)) (sym c.way-by.ensures) near in
    let high = high_moved outline c.way-by.result c.hull-hull.result c.hull-hull.ensures there in
    let yes : IsTrue c.is_near-2.result = c.is_near-2.ensures.1 (subst IsNearInHalves (sym c.high_after.ensures) high) in
    absurd (grind (arith, yes, c.if-not-is_near-2.true))

pub moved-requires : goal.moved-requires
moved-requires c =
    let low = subst IsNearInHalves c.low_after.ensures (c.is_near.ensures.0 c.if-not-is_near.false) in
    let high = subst IsNearInHalves c.high_after.ensures (c.is_near-2.ensures.0 c.if-not-is_near-2.false) in
    all_reach _ (near_by_corners c.args.self.now.outline c.way-by.result c.hull-hull.result c.hull-hull.ensures low high)

pub returns-in-Ok-clause-near : goal.returns-in-Ok-clause-near
returns-in-Ok-clause-near c =
    let low = subst IsNearInHalves c.low_after.ensures (c.is_near.ensures.0 c.if-not-is_near.false) in
    let high = subst IsNearInHalves c.high_after.ensures (c.is_near-2.ensures.0 c.if-not-is_near-2.false) in
    subst AreNear (sym c.in-Ok.ensures)
    (near_by_corners c.args.self.now.outline c.way-by.result c.hull-hull.result c.hull-hull.ensures low high)
