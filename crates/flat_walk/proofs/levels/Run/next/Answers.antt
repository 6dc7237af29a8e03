use Rattle.std.proofs.Common.{◌∙◌, sym, ap, subst, arith, ◌+◌, ◌*◌, ◌^◌, map, ◌++◌, Some}
use Rattle.half_grid.specs.declared.plane.Point.{Point}
use Rattle.layout_model.specs.Layouts.{IsMove, IsWithin}
use Rattle.layout_model.specs.Images.{image_of, moved}
use Rattle.flat_walk.specs.Rests.{Skips, marked_image}
use Rattle.flat_walk.specs.Ways.{marked_of, run_rest, spots_rest}
use Rattle.flat_walk.proofs.RestLemmas.{slot_all}
use Rattle.flat_walk.proofs.PointLemmas.{image_within, moved_within, within_more}
use Rattle.flat_walk.proofs.ShowLemmas.{spots_gives, spots_skip, spots_to, hidden_at, meet_off}
use Rattle.flat_walk.proofs.levels.Run.next.Goals as goal

pub raised-requires-clause-at : goal.raised-requires-clause-at
raised-requires-clause-at c =
    let s = c.loop-self.self in
    let grid = c.loop-self.invariant.run.grid in
    let move = slot_all IsMove s.placement.now.offsets s.place c.nth-by.result grid.offsets.moves c.nth-by.ensures in
    let inner = moved_within (2 ^ 41) (2 ^ 41) c.nth-by.result s.placement.now.at move.near grid.at.near in
    subst (IsWithin (2 ^ 58)) (sym c.spot-spot.ensures) (within_more (2 ^ 54 + 16 * (2 ^ 41 + 2 ^ 41)) (2 ^ 58) _ (omega arith)
    (image_within c.args.outer (2 ^ 54) (2 ^ 41 + 2 ^ 41) c.args.at (moved c.nth-by.result s.placement.now.at) c.requires.outer.factor c.requires.at inner))

pub returns-then-meet-clause-gives : goal.returns-then-meet-clause-gives
returns-then-meet-clause-gives c =
    let s = c.loop-self.self in
    let i = c.loop-self.invariant in
    let w = c.args.scene.now.window in
    let before = run_rest c.args.scene.now c.args.outer c.args.at (Some c.args.self.now) in
    let later = spots_rest c.args.outer c.args.at s.placement.now (marked_of c.args.scene.now s.target) (s.place + 1) in
    subst (λ t. Skips w before (map (marked_image c.args.self.now.orient c.spot-spot.result) (marked_of c.args.scene.now t) ++ later)) i.target
    (spots_gives w before c.args.outer c.args.at s.placement.now
    (marked_of c.args.scene.now s.target) s.place c.nth-by.result c.args.self.now.orient c.spot-spot.result
    i.skips c.requires.outer i.run.grid.orient c.nth-by.ensures (sym i.orient ∙ i.run.orient) c.spot-spot.ensures)

pub returns-then-meet-clause-spot : goal.returns-then-meet-clause-spot
returns-then-meet-clause-spot c =
    let s = c.loop-self.self in
    let i = c.loop-self.invariant in
    record {
      by = c.nth-by.result;
      near = (slot_all IsMove s.placement.now.offsets s.place c.nth-by.result i.run.grid.offsets.moves c.nth-by.ensures).near;
      is = c.spot-spot.ensures ∙ ap (λ p. image_of c.args.outer c.args.at (moved c.nth-by.result p.at)) i.placement;
    }

pub loop-self-preserved : goal.loop-self-preserved
loop-self-preserved c =
    let s = c.loop-self.self in
    let i = c.loop-self.invariant in
    let w = c.args.scene.now.window in
    let before = run_rest c.args.scene.now c.args.outer c.args.at (Some c.args.self.now) in
    let things = marked_of c.args.scene.now s.target in
    let spot : Point = c.spot-spot.result in
    let off = meet_off w s.rows.low s.rows.high c.raised.result.low c.raised.result.high spot.y c.meet.result
    c.raised.ensures.low c.raised.ensures.high c.meet.ensures c.if-meet.false in
    let one = spots_skip w before c.args.outer c.args.at s.placement.now things s.place s.orient spot
    (spots_gives w before c.args.outer c.args.at s.placement.now things s.place c.nth-by.result s.orient spot i.skips
    c.requires.outer i.run.grid.orient c.nth-by.ensures i.run.orient c.spot-spot.ensures)
    (hidden_at w s.orient spot s.rows.low s.rows.high things i.run.between off) in
    record {
      run = record {
        number = i.run.number;
        placed = i.run.placed;
        target = i.run.target;
        grid = i.run.grid;
        is_orient = i.run.is_orient;
        orient = i.run.orient;
        between = i.run.between;
        near = i.run.near;
      };
      skips = spots_to w before c.args.outer c.args.at s.placement.now things s.orient s.rows.low s.rows.high s.place
          c.onward-self.result c.requires.outer i.run.grid.orient i.run.orient c.onward-self.ensures.later
          c.onward-self.ensures.inside i.run.between c.onward-self.ensures.none one;
      target = i.target;
      orient = i.orient;
      placement = i.placement;
    }
