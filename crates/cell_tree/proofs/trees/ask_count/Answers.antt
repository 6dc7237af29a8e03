use Rattle.std.proofs.Common.{◌<◌, length, ap, ◌∙◌, subst, sym}
use Rattle.std.proofs.lemmas.Grind.{get_or_default_zero}
use Rattle.cell_tree.specs.Cells.{name_at}
use Rattle.cell_tree.specs.Counting.{IsCrowd, AreCounted}
use Rattle.cell_tree.specs.declared.crowds.Counted.TheVariants.{Each}
use Rattle.cell_tree.proofs.SlotLemmas.{All-slot}
use Rattle.cell_tree.proofs.ChainLemmas.{top_reachable}
use Rattle.cell_tree.proofs.TreeLemmas.{order_short, crowd_is, among_shown, shown_among}
use Rattle.cell_tree.proofs.trees.ask_count.Goals as goal

pub count_shapes-requires-clause-short : goal.count_shapes-requires-clause-short
count_shapes-requires-clause-short c =
    order_short c.args.linked.now.cells c.args.found.now.top c.args.found.now.order.items c.as_slice.result.now
    c.as_slice.ensures.value c.requires.order c.requires.shallow

pub name_of-requires : goal.name_of-requires
name_of-requires c =
    let order = c.args.found.now.order.items in let cells = c.args.linked.now.cells in let shown = c.as_slice.result.now in let crowd = c.in-Crowded.crowd in
    let is : IsCrowd cells shown crowd.cell crowd.count = subst (AreCounted cells shown) c.in-Crowded.is c.in_ok-counts.ensures in
    let among = among_shown order shown crowd.cell c.as_slice.ensures.value is.among in
    subst (λ l. crowd.cell < length l) (sym c.cells.ensures)
    (All-slot order (λ n. n < length cells) c.requires.order.is_upward.within among.0 crowd.cell among.1)

pub returns-in_ok-name-in-Crowded-clause-err : goal.returns-in_ok-name-in-Crowded-clause-err
returns-in_ok-name-in-Crowded-clause-err c =
    let order = c.args.found.now.order.items in let cells = c.args.linked.now.cells in let shown = c.as_slice.result.now in let crowd = c.in-Crowded.crowd in
    let is : IsCrowd cells shown crowd.cell crowd.count = subst (AreCounted cells shown) c.in-Crowded.is c.in_ok-counts.ensures in (
      c.requires.known,
      c.requires.acyclic,
      c.requires.shallow,
      c.requires.mild,
      c.requires.fixed,
      c.requires.near,
      crowd_is cells c.args.found.now.top crowd.cell crowd.count order shown c.in_ok-name-in-Crowded.name c.as_slice.ensures.value
          c.requires.order is (c.in_ok-name-in-Crowded.ensures ∙ ap (λ l. name_at l crowd.cell) c.cells.ensures),
    )

pub returns-in-Each-clause-ok : goal.returns-in-Each-clause-ok
returns-in-Each-clause-ok c =
    let order = c.args.found.now.order.items in let cells = c.args.linked.now.cells in let shown = c.as_slice.result.now in let top = c.args.found.now.top in
    let all : AreCounted cells shown (Each c.in-Each.counts) = subst (AreCounted cells shown) c.in-Each.is c.in_ok-counts.ensures in
    (all.1 top (shown_among order shown top c.as_slice.ensures.value (c.requires.order.all top (top_reachable cells top)))).few

pub returns-in-Each-clause-count : goal.returns-in-Each-clause-count
returns-in-Each-clause-count c =
    let order = c.args.found.now.order.items in let cells = c.args.linked.now.cells in let shown = c.as_slice.result.now in let top = c.args.found.now.top in
    let all : AreCounted cells shown (Each c.in-Each.counts) = subst (AreCounted cells shown) c.in-Each.is c.in_ok-counts.ensures in
    let inside : top < length c.in-Each.counts.items = subst (λ l. top < l) (sym all.0) c.requires.top in
    let own = all.1 top (shown_among order shown top c.as_slice.ensures.value (c.requires.order.all top (top_reachable cells top))) in
    c.index.ensures ∙ get_or_default_zero c.in-Each.counts.items top c.index.result.now inside ∙ own.number
