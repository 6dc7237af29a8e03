use Rattle.std.proofs.Common.{◌≡◌, ◌<◌, Some, OnOk, length, ap, sym, subst, ◌∙◌}
use Rattle.std.proofs.lemmas.Option.{same_Some}
use Rattle.geo_stream.specs.Refusals.{IfFault}
use Rattle.cell_tree.specs.Cells.{cell_number}
use Rattle.cell_tree.specs.Trees.{IsTree}
use Rattle.cell_tree.specs.Faults.{IsFirstTreeFault}
use Rattle.cell_tree.proofs.NameLemmas.{number_within}
use Rattle.cell_tree.proofs.TreeLemmas.{accepted, answered}
use Rattle.cell_tree.proofs.trees.resolve.Goals as goal

pub search_from-requires : goal.search_from-requires
search_from-requires c =
    let here : cell_number c.args.layout.cells c.args.top.now ≡ Some c.in-Some.top = sym
    (ap (λ l. cell_number l c.args.top.now) c.as_slice.ensures) ∙ sym c.number_of.ensures ∙ c.in-Some.is in
    subst (λ l. c.in-Some.top < length l.cells) (sym c.in_ok-linked.ensures) (number_within c.args.layout.cells c.args.top.now c.in-Some.top here)

pub tree_of-requires-clause-top : goal.tree_of-requires-clause-top
tree_of-requires-clause-top c =
    let here : cell_number c.args.layout.cells c.args.top.now ≡ Some c.in-Some.top = sym
    (ap (λ l. cell_number l c.args.top.now) c.as_slice.ensures) ∙ sym c.number_of.ensures ∙ c.in-Some.is in
    subst (λ l. c.in_ok-found.found.top < length l.cells) (sym (c.find_copies.ensures ∙ c.in_ok-linked.ensures))
    (subst (λ t. t < length c.args.layout.cells) (sym c.in_ok-found.ensures.top) (number_within c.args.layout.cells c.args.top.now c.in-Some.top here))

pub returns-clause-accepted : goal.returns-clause-accepted
returns-clause-accepted c = λ n is tree.
    (let here : cell_number c.args.layout.cells c.args.top.now ≡ Some c.in-Some.top = sym
    (ap (λ l. cell_number l c.args.top.now) c.as_slice.ensures) ∙ sym c.number_of.ensures ∙ c.in-Some.is in
    let top = c.in_ok-found.found.top in
    let same : n ≡ top = same_Some n c.in-Some.top (sym is ∙ here) ∙ sym c.in_ok-found.ensures.top in
    accepted c.args.layout.cells top c.tree_of.result c.requires.cells
    (subst (λ l. IfFault c.tree_of.result (IsFirstTreeFault l.cells top)) (c.find_copies.ensures ∙ c.in_ok-linked.ensures) c.tree_of.ensures.err)
    (subst (IsTree c.args.layout.cells) same tree))

pub returns-clause-found : goal.returns-clause-found
returns-clause-found c = λ n bad is fault.
    (let here : cell_number c.args.layout.cells c.args.top.now ≡ Some c.in-Some.top = sym
    (ap (λ l. cell_number l c.args.top.now) c.as_slice.ensures) ∙ sym c.number_of.ensures ∙ c.in-Some.is in
    let top = c.in_ok-found.found.top in
    let same : n ≡ top = same_Some n c.in-Some.top (sym is ∙ here) ∙ sym c.in_ok-found.ensures.top in
    answered c.args.layout.cells top c.tree_of.result bad c.requires.cells
    (subst (λ l. OnOk c.tree_of.result (IsTree l.cells top)) (c.find_copies.ensures ∙ c.in_ok-linked.ensures) c.tree_of.ensures.tree)
    (subst (λ l. IfFault c.tree_of.result (IsFirstTreeFault l.cells top)) (c.find_copies.ensures ∙ c.in_ok-linked.ensures) c.tree_of.ensures.err)
    (subst (λ t. IsFirstTreeFault c.args.layout.cells t bad) same fault))
