use Rattle.std.proofs.Common.{ap, ◌∙◌, sym, ◌++◌, ◌∷◌, [], get_or}
use Rattle.std.proofs.lemmas.List.{map_more}
use Rattle.cell_tree.specs.Cells.{name_at}
use Rattle.cell_tree.proofs.ChainLemmas.{name_read}
use Rattle.cell_tree.proofs.faults.names_of.Goals as goal

pub loop-number-preserved : goal.loop-number-preserved
loop-number-preserved c =
    let cells = c.args.cells.now in let numbers = c.args.numbers.now in let i = c.loop-number.number-index in
    c.in_ok-push.ensures.ok ∙ ap (λ x. c.loop-number.names ++ x ∷ [])
    (c.in_ok-copy_of.ensures ∙ sym
    (name_read cells (get_or numbers i 0) c.index-cells-number.result (c.requires i 0 c.loop-number-test.true)))
    ∙ ap (λ l. l ++ name_at cells (get_or numbers i 0) ∷ []) c.loop-number.invariant ∙ sym (map_more (name_at cells) numbers i 0 c.loop-number-test.true)
