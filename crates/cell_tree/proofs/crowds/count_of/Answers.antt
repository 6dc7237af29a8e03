use Rattle.std.proofs.Common.{refl, arith}
use Rattle.cell_tree.specs.Cells.{shapes_at}
use Rattle.cell_tree.specs.Counting.{own_count}
use Rattle.cell_tree.proofs.CountLemmas.{step_count, all_counted}
use Rattle.cell_tree.proofs.crowds.count_of.Goals as goal

pub loop-k-preserved : goal.loop-k-preserved
loop-k-preserved c =
    let cells = c.args.linked.now.cells in let k = c.loop-k.k in
    let h = step_count cells c.args.cell k
    (own_count (shapes_at cells c.args.cell)) c.loop-k.count c.copies.result c.args.counts.now
    c.placements-placements.result.now c.targets-target-items.result.now
    c.index-placements-k.result c.placements-placements.ensures c.targets-target-items.ensures.value c.loop-k-test.true
    c.index-placements-k.is c.requires.placed c.loop-k.invariant c.copies.ensures in
    omega arith

pub returns : goal.returns
returns c =
    let cells = c.args.linked.now.cells in
    all_counted cells c.args.cell c.loop-k.k
    (own_count (shapes_at cells c.args.cell)) c.loop-k.count c.targets-target-items.result.now
    c.targets-target-items.ensures.value c.loop-k-test.false c.requires.short refl c.loop-k.invariant
