use Rattle.std.proofs.Common.{◌≡◌, ◌∙◌, ap, sym, subst, length, arith, ◌++◌, ◌∷◌, []}
use Rattle.cell_tree.specs.Cells.{placements_at}
use Rattle.cell_tree.specs.Chains.{IsReachable}
use Rattle.flat_walk.specs.Boxes.{AreSpots, boxes_at}
use Rattle.flat_walk.proofs.BoxLemmas.{spots_more, no_spots}
use Rattle.flat_walk.proofs.boxes.spot_boxes.Goals as goal

pub loop-alloc-init : goal.loop-alloc-init
loop-alloc-init c = λ n reach.
    let cells = c.args.tree.now.layout.cells in
    subst (λ l. AreSpots cells (placements_at cells n) (boxes_at l n)) (sym c.in_ok-lists.ensures.items) (no_spots cells (placements_at cells n))

pub loop-alloc-preserved : goal.loop-alloc-preserved
loop-alloc-preserved c =
    let cells = c.args.tree.now.layout.cells in
    let top = c.args.tree.now.top in
    let before = c.loop-alloc.lists.items in
    let new = c.in_ok-boxes.boxes in
    let long : c.len-cell.result ≡ length before = omega (arith, c.len-cell.ensures, c.loop-alloc.lists.ok) in
    let more = spots_more cells top before new.items c.loop-alloc.invariant
    (subst (λ k. IsReachable cells top k → AreSpots cells (placements_at cells k) new.items) long
    c.in_ok-boxes.ensures.around) in
    λ n reach. subst (λ l. AreSpots cells (placements_at cells n) (boxes_at l n))
    (sym (c.in_ok-push.ensures.items ∙ ap (λ b. before ++ b ∷ []) c.in_ok-list.ensures)) (more n reach)
