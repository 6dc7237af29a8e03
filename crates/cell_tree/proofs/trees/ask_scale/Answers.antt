use Rattle.std.proofs.Common.{pos, ◌<◌, Some, None, false, length, subst, sym, ap, ◌∙◌, arith, rules}
use Rattle.std.proofs.lemmas.Int.{ints}
use Rattle.cell_tree.specs.Factors.{IsFarthest}
use Rattle.cell_tree.proofs.FactorLemmas.{mild}
use Rattle.cell_tree.proofs.TreeLemmas.{farthest_top, farthest_below, all_shown, chain_within, names_shown}
use Rattle.cell_tree.proofs.trees.ask_scale.Goals as goal

pub returns-in_default-clause-ok : goal.returns-in_default-clause-ok
returns-in_default-clause-ok c =
    let cells = c.args.linked.now.cells in let top = c.args.found.now.top in let farthest = c.in_ok-farthest.farthest.items in
    let inside : top < length farthest = subst (λ l. top < l) (sym c.in_ok-farthest.ensures.long) c.requires.top in
    mild cells top None (subst (IsFarthest cells false top) c.in_default.is
    (farthest_top cells false top c.args.found.now.order.items c.as_slice.result.now farthest c.index.result.now
    c.as_slice.ensures.value c.requires.order c.in_ok-farthest.ensures.farthest inside c.index.ensures)) tt

pub returns-then-far-le16-clause-ok : goal.returns-then-far-le16-clause-ok
returns-then-far-le16-clause-ok c =
    let cells = c.args.linked.now.cells in let top = c.args.found.now.top in let farthest = c.in_ok-farthest.farthest.items in
    let inside : top < length farthest = subst (λ l. top < l) (sym c.in_ok-farthest.ensures.long) c.requires.top in
    mild cells top (Some c.in-Some.far) (subst (IsFarthest cells false top) c.in-Some.is
    (farthest_top cells false top c.args.found.now.order.items c.as_slice.result.now farthest c.index.result.now
    c.as_slice.ensures.value c.requires.order c.in_ok-farthest.ensures.farthest inside c.index.ensures))
    c.if-far-le16.true

pub scaled_chain-requires-clause-farthest : goal.scaled_chain-requires-clause-farthest
scaled_chain-requires-clause-farthest c =
    farthest_below c.args.linked.now.cells false c.args.found.now.top c.args.found.now.order.items
    c.as_slice.result.now c.in_ok-farthest.farthest.items c.as_slice-2.result.now
    c.as_slice.ensures.value c.as_slice-2.ensures.value c.requires.order c.in_ok-farthest.ensures.farthest

pub names_of-requires : goal.names_of-requires
names_of-requires c =
    let d = c.in_ok-scaled.ensures in
    all_shown 0 c.in_ok-scaled.scaled.cells.items c.as_slice-3.result.now c.args.linked.now.cells c.cells.result.now c.as_slice-3.ensures.value c.cells.ensures
    (chain_within c.args.linked.now.cells c.args.found.now.top d.links c.in_ok-scaled.scaled.cells.items c.requires.top d.chain d.numbers_are)

pub overflow_cast-result : goal.overflow_cast-result
overflow_cast-result c = let small = c.in_ok-scaled.ensures.small in search (rules, ints)

pub returns-clause-err : goal.returns-clause-err
returns-clause-err c =
    let d = c.in_ok-scaled.ensures in let small = d.small in (
      c.requires.known,
      c.requires.acyclic,
      c.requires.shallow,
      record {
        links = d.links;
        chain = d.chain;
        factor = (omega (arith, ints, d.small)) ∙ ap pos d.factor_is;
        above = subst (λ f. 16 < f) d.factor_is d.above;
        before = d.before;
        named = names_shown c.args.linked.now.cells c.cells.result.now _ c.as_slice-3.result.now c.in_ok-names.names
            c.cells.ensures (c.as_slice-3.ensures.value ∙ d.numbers_are) c.in_ok-names.ensures;
      },
    )
