use Rattle.std.proofs.Common.{ap, ◌∙◌, ◌++◌, ◌∷◌, []}
use Rattle.cell_tree.proofs.NameLemmas.{target_more}
use Rattle.cell_tree.proofs.linked.targets_of.Goals as goal

pub loop-placement-preserved : goal.loop-placement-preserved
loop-placement-preserved c = c.in_ok-push.ensures.items ∙ ap (λ x. c.loop-placement.targets.items ++ x ∷ []) c.get_index_of.ensures.index
    ∙ target_more c.args.names.now.keys c.args.placements.now c.loop-placement.targets.items
    c.loop-placement.placement-index c.placement-item.result c.bytes.result
    c.loop-placement-test.true c.placement-item.is c.bytes.ensures.value c.loop-placement.invariant
