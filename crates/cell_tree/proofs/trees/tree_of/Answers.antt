use Rattle.std.proofs.Common.{◌<◌, length, map, ap, sym, subst, ◌∙◌, arith}
use Rattle.std.proofs.lemmas.Int.{ints}
use Rattle.cell_tree.proofs.ChainLemmas.{top_reachable}
use Rattle.cell_tree.proofs.ReachLemmas.{near_below}
use Rattle.cell_tree.specs.HullTables.{extent_in}
use Rattle.cell_tree.proofs.TreeLemmas.{order_short, order_near, top_hulls, hulls_below, only_below, near_of, extent_is, extent_same}
use Rattle.cell_tree.proofs.trees.tree_of.Goals as goal

pub hulls-requires-clause-short : goal.hulls-requires-clause-short
hulls-requires-clause-short c =
    let cells = c.args.linked.cells in let top = c.args.found.now.top in let order = c.args.found.now.order.items in
    order_short cells top order c.as_slice.result.now c.as_slice.ensures.value c.in_ok-ask_cycle.ensures.order c.in_ok-ask_depth.ensures.ok

pub hulls-requires-clause-near : goal.hulls-requires-clause-near
hulls-requires-clause-near c =
    let cells = c.args.linked.cells in let top = c.args.found.now.top in let order = c.args.found.now.order.items in
    order_near cells top order c.as_slice.result.now c.requires.grid.cells c.as_slice.ensures.value
    c.in_ok-ask_cycle.ensures.order c.in_ok-ask_depth.ensures.ok c.in_ok-ask_scale.ensures.ok

pub returns-in-Some-clause-err : goal.returns-in-Some-clause-err
returns-in-Some-clause-err c =
    let cells = c.args.linked.cells in let top = c.args.found.now.top in let order = c.args.found.now.order.items in
    let inside : top < length c.in_ok-hulls.hulls.items = subst (λ l. top < l) (sym c.in_ok-hulls.ensures.long) c.requires.top in
    let are = top_hulls (λ list. list.items) cells top order c.as_slice.result.now c.in_ok-hulls.hulls.items
    c.index.result.now c.as_slice.ensures.value c.in_ok-ask_cycle.ensures.order c.in_ok-hulls.ensures.hulls
    inside c.index.ensures in (
      c.in_ok-ask_names.ensures.ok,
      c.in_ok-ask_cycle.ensures.ok,
      c.in_ok-ask_depth.ensures.ok,
      c.in_ok-ask_scale.ensures.ok,
      c.in_ok-ask_fixed.ensures.ok,
      extent_same cells top c.in-Some.value _
          (near_below cells c.requires.grid.cells top top c.in_ok-ask_depth.ensures.ok c.in_ok-ask_scale.ensures.ok
          (top_reachable cells top))
          (extent_is cells top c.index.result.now.items c.in-Some.value are
          (sym (ap extent_in c.as_slice-2.ensures.value) ∙ sym c.extent_of.ensures ∙ c.in-Some.is))
          (λ small. let low = small.low in let high = small.high in omega (arith, ints)),
    )

pub ask_count-requires-clause-near : goal.ask_count-requires-clause-near
ask_count-requires-clause-near c =
    let cells = c.args.linked.cells in let top = c.args.found.now.top in let order = c.args.found.now.order.items in
    let inside : top < length c.in_ok-hulls.hulls.items = subst (λ l. top < l) (sym c.in_ok-hulls.ensures.long) c.requires.top in
    let are = top_hulls (λ list. list.items) cells top order c.as_slice.result.now c.in_ok-hulls.hulls.items
    c.index.result.now c.as_slice.ensures.value c.in_ok-ask_cycle.ensures.order c.in_ok-hulls.ensures.hulls
    inside c.index.ensures in
    let near = near_of cells top c.index.result.now.items are (sym (ap extent_in c.as_slice-2.ensures.value) ∙ sym c.extent_of.ensures ∙ c.in_default.is) in
    near

pub invariant_of-result : goal.invariant_of-result
invariant_of-result c =
    let cells = c.args.linked.cells in let top = c.args.found.now.top in let order = c.args.found.now.order.items in
    let inside : top < length c.in_ok-hulls.hulls.items = subst (λ l. top < l) (sym c.in_ok-hulls.ensures.long) c.requires.top in
    let are = top_hulls (λ list. list.items) cells top order c.as_slice.result.now c.in_ok-hulls.hulls.items
    c.index.result.now c.as_slice.ensures.value c.in_ok-ask_cycle.ensures.order c.in_ok-hulls.ensures.hulls
    inside c.index.ensures in
    let near = near_of cells top c.index.result.now.items are (sym (ap extent_in c.as_slice-2.ensures.value) ∙ sym c.extent_of.ensures ∙ c.in_default.is) in (
      c.requires.grid,
      c.requires.top,
      record {
        known = c.in_ok-ask_names.ensures.ok;
        acyclic = c.in_ok-ask_cycle.ensures.ok;
        shallow = c.in_ok-ask_depth.ensures.ok;
        mild = c.in_ok-ask_scale.ensures.ok;
        fixed = c.in_ok-ask_fixed.ensures.ok;
        near = near;
        counted = c.in_ok-shapes.ensures.ok;
      },
      c.in_ok-hulls.ensures.long,
      hulls_below cells top order c.as_slice.result.now
          (map (λ list. list.items) c.in_ok-hulls.hulls.items) c.as_slice.ensures.value c.in_ok-ask_cycle.ensures.order
          c.in_ok-hulls.ensures.hulls,
      only_below cells top order c.as_slice.result.now
          (map (λ list. list.items) c.in_ok-hulls.hulls.items) c.as_slice.ensures.value c.in_ok-ask_cycle.ensures.order
          c.in_ok-hulls.ensures.only,
      c.in_ok-shapes.ensures.count,
    )

pub returns-clause-tree : goal.returns-clause-tree
returns-clause-tree c =
    let cells = c.args.linked.cells in let top = c.args.found.now.top in let order = c.args.found.now.order.items in
    let inside : top < length c.in_ok-hulls.hulls.items = subst (λ l. top < l) (sym c.in_ok-hulls.ensures.long) c.requires.top in
    let are = top_hulls (λ list. list.items) cells top order c.as_slice.result.now c.in_ok-hulls.hulls.items
    c.index.result.now c.as_slice.ensures.value c.in_ok-ask_cycle.ensures.order c.in_ok-hulls.ensures.hulls
    inside c.index.ensures in
    let near = near_of cells top c.index.result.now.items are (sym (ap extent_in c.as_slice-2.ensures.value) ∙ sym c.extent_of.ensures ∙ c.in_default.is) in
    record {
      known = c.in_ok-ask_names.ensures.ok;
      acyclic = c.in_ok-ask_cycle.ensures.ok;
      shallow = c.in_ok-ask_depth.ensures.ok;
      mild = c.in_ok-ask_scale.ensures.ok;
      fixed = c.in_ok-ask_fixed.ensures.ok;
      near = near;
      counted = c.in_ok-shapes.ensures.ok;
    }
