use Rattle.std.proofs.Common.{ap, ◌∙◌, sym, subst, ◌<◌, length}
use Rattle.cell_tree.specs.Cells.{targets_at}
use Rattle.cell_tree.specs.Linking.{AreTargetsBelow}
use Rattle.cell_tree.proofs.NameLemmas.{row_at, targets_below}
use Rattle.cell_tree.proofs.linked.Linked.targets.Goals as goal

value : goal.returns-clause-value
value c = c.as_slice.ensures.value
    ∙ row_at (λ row. row.items) c.self.inside.layout.cells c.self.inside.targets.items c.args.cell c.index.result.now
    (subst (λ layout. c.args.cell < length layout.cells) (sym c.self.view_is) c.requires) c.self.invariant.1 c.index.ensures
    ∙ ap (λ layout. targets_at layout.cells c.args.cell) c.self.view_is

pub returns-clause-value : goal.returns-clause-value
returns-clause-value = value

pub returns-clause-below : goal.returns-clause-below
returns-clause-below c = subst (AreTargetsBelow (length c.args.self.now.cells)) (sym (value c)) (targets_below c.args.self.now.cells c.args.cell)
