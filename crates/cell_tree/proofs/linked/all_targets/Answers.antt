use Rattle.std.proofs.Common.{ap, ◌∙◌, map}
use Rattle.cell_tree.specs.Linking.{pointed, places_among}
use Rattle.cell_tree.proofs.NameLemmas.{row_more}
use Rattle.cell_tree.proofs.linked.all_targets.Goals as goal

pub loop-cell-preserved : goal.loop-cell-preserved
loop-cell-preserved c = ap (λ rows. map (λ row. row.items) rows) c.in_ok-push.ensures.items
    ∙ row_more (λ row. row.items) c.args.cells.now c.loop-cell.targets.items c.in_ok-targets_of.field-0
    c.in_ok-names.names.keys c.loop-cell.cell-index c.cell-item.result
    c.loop-cell-test.true c.cell-item.is c.in_ok-names.ensures
    (c.in_ok-targets_of.ensures ∙ ap (λ ps. places_among (pointed c.in_ok-names.names.keys) ps) c.as_slice.ensures)
    c.loop-cell.invariant
