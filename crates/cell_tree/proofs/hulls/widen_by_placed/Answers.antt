use Rattle.std.proofs.Common.{◌≡◌, pos, Some, get_or, slice_get, subst, sym, ap, ◌∙◌}
use Rattle.std.specs.Option.{option_map}
use Rattle.std.proofs.lemmas.List.{take_all}
use Rattle.std.proofs.lemmas.Option.{slice_get-get_or}
use Rattle.cell_tree.specs.Boxes.{summed_box}
use Rattle.cell_tree.specs.HullTables.{AreInOrder, hull_in, widest, widened_list, placed_hull}
use Rattle.cell_tree.specs.declared.hulls.PairHull.{PairHull}
use Rattle.cell_tree.proofs.HullLemmas.{merge_more, widened_in_order}
use Rattle.cell_tree.proofs.hulls.widen_by_placed.Goals as goal

pub loop-there-preserved : goal.loop-there-preserved
loop-there-preserved c =
    let placed = c.args.placed.now in let i = c.loop-there.there-index in let cur = c.loop-there.hulls.items in let inv = c.loop-there.invariant in
    let here : PairHull = get_or placed i
    (record {
      pair = record { layer = 0; datatype = 0 };
      hull =
          record { x0 = pos 0; y0 = pos 0; x1 = pos 0; y1 = pos 0 };
    }) in
    let at : slice_get placed i ≡ Some here = slice_get-get_or placed i
    (record {
      pair = record { layer = 0; datatype = 0 };
      hull =
          record { x0 = pos 0; y0 = pos 0; x1 = pos 0; y1 = pos 0 };
    }) c.loop-there-test.true in
    let box : c.summed.result ≡ placed_hull c.args.orient c.args.moves here.hull = c.summed.ensures ∙ ap
    (λ f. summed_box f c.args.moves) c.oriented.ensures.value in
    let e : c.widen.new.hulls.items ≡ widened_list cur here.pair (placed_hull c.args.orient c.args.moves here.hull) =
    c.in_ok-widen.ensures ∙ ap (widened_list cur here.pair) box in (
      subst AreInOrder (sym e) (widened_in_order cur here.pair (placed_hull c.args.orient c.args.moves here.hull) inv.0),
      λ pair. ap (λ l. hull_in l pair) e ∙ merge_more
          (placed_hull c.args.orient c.args.moves) c.args.hulls.now.items cur placed i here inv.0 c.requires.order
          c.loop-there-test.true at inv.1 pair,
    )

pub returns-clause-hulls : goal.returns-clause-hulls
returns-clause-hulls c = λ pair. c.loop-there.invariant.1 pair
    ∙ ap (λ l. widest (hull_in c.args.hulls.now.items pair)
    (option_map (placed_hull c.args.orient c.args.moves) (hull_in l pair)))
    (take_all c.loop-there.there-index c.args.placed.now c.loop-there-test.false)
