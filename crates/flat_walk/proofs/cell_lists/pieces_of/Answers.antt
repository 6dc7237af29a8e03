use Rattle.std.proofs.Common.{length, arith, ap, sym, ◌∙◌}
use Rattle.std.specs.List.{sum_by}
use Rattle.std.proofs.lemmas.List.{take_all}
use Rattle.flat_walk.specs.Tables.{count_within}
use Rattle.flat_walk.proofs.EntryLemmas.{counted_entry, counted_lists}
use Rattle.flat_walk.proofs.cell_lists.pieces_of.Goals as goal

pub loop-number-preserved : goal.loop-number-preserved
loop-number-preserved c =
    let n = c.loop-number.number in
    let inside = c.len-number-end.ensures in
    let h = counted_entry c.args.table.now n c.loop-number.count c.count.result (omega (arith, c.loop-number-test.true, inside))
    c.loop-number.invariant c.count.ensures c.count.type_inv in
    omega (arith, h)

pub returns : goal.returns
returns c =
    c.loop-number.invariant ∙ ap (λ l. count_within (sum_by (λ entry. length entry.pieces) l))
    (take_all c.loop-number.number c.args.table.now (let long = c.len-number-end.ensures in omega (arith, long, c.loop-number-test.false)))
    ∙ ap count_within (sym (counted_lists c.args.table.now))
