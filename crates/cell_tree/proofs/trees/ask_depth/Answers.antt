use Rattle.std.proofs.Common.{◌<◌, length, subst, sym, arith}
use Rattle.cell_tree.proofs.HeightLemmas.{shallow}
use Rattle.cell_tree.proofs.TreeLemmas.{height_top, heights_below, all_shown, chain_within}
use Rattle.cell_tree.proofs.trees.ask_depth.Goals as goal

pub returns-then-index-lt65-clause-ok : goal.returns-then-index-lt65-clause-ok
returns-then-index-lt65-clause-ok c =
    let cells = c.args.linked.now.cells in let top = c.args.found.now.top in let heights = c.in_ok-heights.heights.items in
    let inside : top < length heights = subst (λ l. top < l) (sym c.in_ok-heights.ensures.long) c.requires.top in
    shallow cells top c.index.result.now
    (height_top cells top c.args.found.now.order.items c.as_slice.result.now heights c.index.result.now
    c.as_slice.ensures.value c.requires.order c.in_ok-heights.ensures.heights inside c.index.ensures)
    (omega (arith, c.if-index-lt65.true))

pub deep_chain-requires-clause-heights : goal.deep_chain-requires-clause-heights
deep_chain-requires-clause-heights c =
    heights_below c.args.linked.now.cells c.args.found.now.top c.args.found.now.order.items c.as_slice.result.now
    c.in_ok-heights.heights.items c.as_slice-2.result.now
    c.as_slice.ensures.value c.as_slice-2.ensures.value c.requires.order c.in_ok-heights.ensures.heights

pub names_of-requires : goal.names_of-requires
names_of-requires c =
    let d = c.in_ok-chain.ensures in
    all_shown 0 c.in_ok-chain.chain.items c.as_slice-3.result.now c.args.linked.now.cells c.cells.result.now c.as_slice-3.ensures.value c.cells.ensures
    (chain_within c.args.linked.now.cells c.args.found.now.top d.links c.in_ok-chain.chain.items c.requires.top d.chain d.numbers_are)
