use Rattle.std.proofs.Common.{◌<◌, ◌≤◌, Some, None, true, length, subst, sym, ap, ◌∙◌, arith, rules}
use Rattle.std.proofs.lemmas.Int.{ints}
use Rattle.cell_tree.specs.Factors.{IsFarthest}
use Rattle.cell_tree.specs.Cells.{name_at}
use Rattle.cell_tree.proofs.FactorLemmas.{keeps}
use Rattle.cell_tree.proofs.TreeLemmas.{farthest_top, enlarged_is, far_within}
use Rattle.cell_tree.proofs.trees.ask_fixed.Goals as goal

pub name_of-requires : goal.name_of-requires
name_of-requires c =
    let cells = c.args.linked.now.cells in let top = c.args.found.now.top in let farthest = c.in_ok-farthest.farthest.items in
    let inside : top < length farthest = subst (λ l. top < l) (sym c.in_ok-farthest.ensures.long) c.requires.top in
    let far : IsFarthest cells true top (Some c.in-Some.far) = subst (IsFarthest cells true top) c.in-Some.is
    (farthest_top cells true top c.args.found.now.order.items c.as_slice.result.now farthest c.index.result.now
    c.as_slice.ensures.value c.requires.order c.in_ok-farthest.ensures.farthest inside c.index.ensures) in
    subst (λ l. c.in-Some.far.cell < length l) (sym c.cells.ensures) (far_within cells true top c.in-Some.far c.requires.top far)

pub returns-in_default-clause-ok : goal.returns-in_default-clause-ok
returns-in_default-clause-ok c =
    let cells = c.args.linked.now.cells in let top = c.args.found.now.top in let farthest = c.in_ok-farthest.farthest.items in
    let inside : top < length farthest = subst (λ l. top < l) (sym c.in_ok-farthest.ensures.long) c.requires.top in
    keeps cells top None (subst (IsFarthest cells true top) c.in_default.is
    (farthest_top cells true top c.args.found.now.order.items c.as_slice.result.now farthest c.index.result.now
    c.as_slice.ensures.value c.requires.order c.in_ok-farthest.ensures.farthest inside c.index.ensures)) tt

pub returns-then-far-le1-clause-ok : goal.returns-then-far-le1-clause-ok
returns-then-far-le1-clause-ok c =
    let cells = c.args.linked.now.cells in let top = c.args.found.now.top in let farthest = c.in_ok-farthest.farthest.items in
    let inside : top < length farthest = subst (λ l. top < l) (sym c.in_ok-farthest.ensures.long) c.requires.top in
    keeps cells top (Some c.in-Some.far) (subst (IsFarthest cells true top) c.in-Some.is
    (farthest_top cells true top c.args.found.now.order.items c.as_slice.result.now farthest c.index.result.now
    c.as_slice.ensures.value c.requires.order c.in_ok-farthest.ensures.farthest inside c.index.ensures))
    c.if-far-le1.true

pub overflow_cast-result : goal.overflow_cast-result
overflow_cast-result c =
    let cells = c.args.linked.now.cells in let top = c.args.found.now.top in let farthest = c.in_ok-farthest.farthest.items in
    let inside : top < length farthest = subst (λ l. top < l) (sym c.in_ok-farthest.ensures.long) c.requires.top in
    let far : IsFarthest cells true top (Some c.in-Some.far) = subst (IsFarthest cells true top) c.in-Some.is
    (farthest_top cells true top c.args.found.now.order.items c.as_slice.result.now farthest c.index.result.now
    c.as_slice.ensures.value c.requires.order c.in_ok-farthest.ensures.farthest inside c.index.ensures) in
    let small : c.in-Some.far.factor ≤ 17 = omega (arith, far.chain.factor) in search (rules, ints)

pub returns-clause-err : goal.returns-clause-err
returns-clause-err c =
    let cells = c.args.linked.now.cells in let top = c.args.found.now.top in let farthest = c.in_ok-farthest.farthest.items in
    let inside : top < length farthest = subst (λ l. top < l) (sym c.in_ok-farthest.ensures.long) c.requires.top in
    let far : IsFarthest cells true top (Some c.in-Some.far) = subst (IsFarthest cells true top) c.in-Some.is
    (farthest_top cells true top c.args.found.now.order.items c.as_slice.result.now farthest c.index.result.now
    c.as_slice.ensures.value c.requires.order c.in_ok-farthest.ensures.farthest inside c.index.ensures) in (
      c.requires.known,
      c.requires.acyclic,
      c.requires.shallow,
      c.requires.mild,
      enlarged_is cells top c.in-Some.far _ c.in_ok-name.name c.requires.mild far (omega (arith, c.if-far-le1.false))
          (let small : c.in-Some.far.factor ≤ 17 = omega (arith, far.chain.factor) in omega (arith, ints))
          (c.in_ok-name.ensures ∙ ap (λ l. name_at l c.in-Some.far.cell) c.cells.ensures),
    )
