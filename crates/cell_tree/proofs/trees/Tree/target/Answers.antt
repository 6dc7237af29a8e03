use Rattle.std.proofs.Common.{ap, ◌∙◌, subst}
use Rattle.cell_tree.specs.Cells.{targets_at}
use Rattle.cell_tree.specs.Trees.{IsTree}
use Rattle.cell_tree.proofs.TreeLemmas.{target_known, target_value, target_inside}
use Rattle.cell_tree.proofs.trees.Tree.target.Goals as goal

pub unreachable-requires : goal.unreachable-requires
unreachable-requires c =
    let now = c.args.self.now in
    target_known now.layout.cells now.top c.args.cell c.args.placement c.targets.result.now
    (subst (λ r. IsTree r.layout.cells r.top) c.self.view_is c.self.invariant.2) c.requires.cell
    (c.targets.ensures.value ∙ ap (λ r. targets_at r.layout.cells c.args.cell) c.self.view_is) c.requires.placement c.in-None.is

pub returns-clause-value : goal.returns-clause-value
returns-clause-value c = λ placed at.
    target_value c.args.self.now.layout.cells c.args.cell c.args.placement c.in-Some.target c.targets.result.now placed
    (c.targets.ensures.value ∙ ap (λ r. targets_at r.layout.cells c.args.cell) c.self.view_is) c.in-Some.is at

pub returns-clause-inside : goal.returns-clause-inside
returns-clause-inside c =
    target_inside c.args.self.now.layout.cells c.args.cell c.args.placement c.in-Some.target c.targets.result.now
    (c.targets.ensures.value ∙ ap (λ r. targets_at r.layout.cells c.args.cell) c.self.view_is) c.requires.placement c.in-Some.is
