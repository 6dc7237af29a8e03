use Rattle.std.proofs.Common.{ap, ◌∙◌}
use Rattle.cell_tree.specs.Linking.{pointed}
use Rattle.cell_tree.proofs.NameLemmas.{pointed_more}
use Rattle.cell_tree.proofs.linked.names_in_order.Goals as goal

pub loop-cell-preserved : goal.loop-cell-preserved
loop-cell-preserved c = ap pointed c.in_ok-insert.ensures.keys
    ∙ pointed_more c.args.cells.now c.loop-cell.names.keys c.bytes.result c.loop-cell.cell-index c.cell-item.result
    c.requires c.loop-cell-test.true c.cell-item.is
    c.bytes.ensures.value c.loop-cell.invariant
