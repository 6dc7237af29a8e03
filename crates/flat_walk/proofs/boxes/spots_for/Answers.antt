use Rattle.std.proofs.Common.{◌≡◌, sym, subst, length, arith, Some, slice_get}
use Rattle.cell_tree.specs.Cells.{placements_at}
use Rattle.flat_walk.specs.Boxes.{AreNear, AreSpots}
use Rattle.flat_walk.proofs.BlockLemmas.{near_more, spot_more, none_near, point_round}
use Rattle.flat_walk.proofs.BoxLemmas.{no_spots}
use Rattle.flat_walk.proofs.boxes.spots_for.Goals as goal

pub loop-boxes-init : goal.loop-boxes-init
loop-boxes-init c =
    let cells = c.args.tree.now.layout.cells in
    let none = sym c.in_ok-boxes.ensures.items in
    record {
      near = subst AreNear none none_near;
      around = λ reach. subst (AreSpots cells (placements_at cells c.args.cell)) none (no_spots cells (placements_at cells c.args.cell));
    }

pub loop-boxes-preserved : goal.loop-boxes-preserved
loop-boxes-preserved c =
    let cells = c.args.tree.now.layout.cells in
    let before = c.loop-boxes.boxes.items in
    let s = c.spot-around.ensures in
    let long : c.len-number.result ≡ length before = omega (arith, c.len-number.ensures, c.loop-boxes.boxes.ok) in
    let items = sym c.in_ok-push.ensures.items in
    record {
      near = subst AreNear items (near_more before c.round.result c.loop-boxes.invariant.near c.round.ensures.near);
      around = λ reach. subst (AreSpots cells (placements_at cells c.args.cell)) items
          (spot_more cells (placements_at cells c.args.cell) before c.round.result
          (c.loop-boxes.invariant.around reach)
          (λ placement p here vertex. point_round c.round.result c.spot-around.result p c.round.ensures.around
          (s.around placement p reach
          (subst (λ k. slice_get (placements_at cells c.args.cell) k ≡ Some placement) (sym long) here) vertex)));
    }
