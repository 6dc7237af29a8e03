use Rattle.std.proofs.Common.{arith}
use Rattle.cell_tree.proofs.CopyLemmas.{counted_copies}
use Rattle.cell_tree.proofs.crowds.own_count.Goals as goal

pub loop-k-preserved : goal.loop-k-preserved
loop-k-preserved c =
    let copies = c.copies_at-copies.result in
    let h = counted_copies c.args.shapes.now c.loop-k.k copies.period copies.times c.loop-k.count c.count_between-once.result c.copies_at-copies.ensures
    c.loop-k.invariant.1 c.count_between-once.ensures in
    (c.copies_at-copies.ensures.within, omega (arith, h))
