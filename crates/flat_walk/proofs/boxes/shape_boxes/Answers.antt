use Rattle.std.proofs.Common.{◌≡◌, ◌∙◌, ap, sym, subst, length, arith, ◌++◌, ◌∷◌, []}
use Rattle.cell_tree.specs.Cells.{shapes_at}
use Rattle.flat_walk.specs.Boxes.{AreBoxed, boxes_at}
use Rattle.flat_walk.specs.Tables.{lists_at}
use Rattle.flat_walk.proofs.BoxLemmas.{cells_more, boxed_none, boxed_all_near}
use Rattle.flat_walk.proofs.boxes.shape_boxes.Goals as goal

pub loop-alloc-init : goal.loop-alloc-init
loop-alloc-init c = λ n. subst
    (λ l. AreBoxed (shapes_at c.args.tree.now.layout.cells n) (lists_at c.args.parts.now n) (boxes_at l n))
    (sym c.in_ok-lists.ensures.items) (boxed_none (shapes_at c.args.tree.now.layout.cells n) (lists_at c.args.parts.now n))

pub of-requires : goal.of-requires
of-requires c =
    let n = c.len-cell.result in
    boxed_all_near (shapes_at c.args.tree.now.layout.cells n) (lists_at c.args.parts.now n) c.in_ok-boxes.boxes.items c.in_ok-boxes.ensures

pub loop-alloc-preserved : goal.loop-alloc-preserved
loop-alloc-preserved c =
    let cells = c.args.tree.now.layout.cells in
    let table = c.args.parts.now in
    let new = c.in_ok-boxes.boxes in
    let n = c.len-cell.result in
    let long : n ≡ length c.loop-alloc.lists.items = omega (arith, c.len-cell.ensures, c.loop-alloc.lists.ok) in
    let more = cells_more cells table c.loop-alloc.lists.items new.items c.loop-alloc.invariant
    (subst (λ k. AreBoxed (shapes_at cells k) (lists_at table k) new.items) long c.in_ok-boxes.ensures) in
    λ k. subst (λ l. AreBoxed (shapes_at cells k) (lists_at table k) (boxes_at l k))
    (sym (c.in_ok-push.ensures.items ∙ ap (λ b. c.loop-alloc.lists.items ++ b ∷ []) c.in_ok-list.ensures)) (more k)
