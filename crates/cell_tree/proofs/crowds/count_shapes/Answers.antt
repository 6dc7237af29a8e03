use Rattle.std.proofs.Common.{◌≡◌, ◌<◌, ◌≤◌, ◌^◌, length, get_or, slice_get, Some, sym, subst, ◌∙◌, arith}
use Rattle.std.proofs.lemmas.List.{length-set}
use Rattle.std.proofs.lemmas.Option.{slice_get-get_or}
use Rattle.cell_tree.specs.Flattening.{shape_count}
use Rattle.cell_tree.proofs.ChainLemmas.{places_at}
use Rattle.cell_tree.proofs.TableLemmas.{known_more, known_all, known_before}
use Rattle.cell_tree.proofs.CountLemmas.{IsCount, exact, crowded}
use Rattle.cell_tree.proofs.crowds.count_shapes.Goals as goal

pub returns-then-count-gt-MOST : goal.returns-then-count-gt-MOST
returns-then-count-gt-MOST c =
    let cells = c.args.linked.now.cells in let order = c.args.order.now in let i = c.loop-cell.cell-index in let table = c.loop-cell.counts.items in
    let n = get_or order i 0 in
    let here : slice_get order i ≡ Some n = slice_get-get_or order i 0 c.loop-cell-test.true in
    record {
      among = (i, here);
      many = crowded (shape_count cells n) c.count_of-count.result c.count_of-count.ensures c.if-count-gt-MOST.true;
      lowest = λ m places.
          (let known = known_before (IsCount cells) 0 order table i m c.loop-cell.invariant.1
          (c.requires.order.upward i n places.1.number m here (places_at cells n places.0 m places.1)) in
          subst (λ k. k ≤ 2 ^ 40) known.0 known.1);
      number = c.count_of-count.ensures;
    }

pub loop-cell-preserved : goal.loop-cell-preserved
loop-cell-preserved c =
    let cells = c.args.linked.now.cells in let order = c.args.order.now in let i = c.loop-cell.cell-index in let table = c.loop-cell.counts.items in
    let n = get_or order i 0 in let count = c.count_of-count.result in
    let here : slice_get order i ≡ Some n = slice_get-get_or order i 0 c.loop-cell-test.true in
    let inside : n < length table = subst (λ l. n < l) (sym c.loop-cell.invariant.0) (c.requires.order.within i 0 c.loop-cell-test.true) in
    let new = exact (shape_count cells n) count c.count_of-count.ensures c.if-count-gt-MOST.false in
    (length-set table n count ∙ c.loop-cell.invariant.0, known_more (IsCount cells) 0 order table i n count here inside c.loop-cell.invariant.1 new)

pub returns : goal.returns
returns c =
    let cells = c.args.linked.now.cells in
    let all = known_all (IsCount cells) 0 c.args.order.now c.loop-cell.counts.items
    (λ j n before at. c.loop-cell.invariant.1 j n (omega (arith, c.loop-cell-test.false)) at) in
    (c.loop-cell.invariant.0, λ n among. (let h = all n among in record { number = h.0; few = subst (λ k. k ≤ 2 ^ 40) h.0 h.1 }))
