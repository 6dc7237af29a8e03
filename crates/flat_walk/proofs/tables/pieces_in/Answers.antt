use Rattle.std.proofs.Common.{length, arith, sym, ◌∙◌, ap}
use Rattle.std.specs.List.{sum_by}
use Rattle.std.proofs.lemmas.List.{take_all}
use Rattle.flat_walk.specs.Tables.{count_within}
use Rattle.flat_walk.proofs.TableLemmas.{counted_more}
use Rattle.flat_walk.proofs.tables.pieces_in.Goals as goal

pub loop-lists-preserved : goal.loop-lists-preserved
loop-lists-preserved c =
    let h = counted_more (sum_by length) c.args.table.now c.loop-lists.lists-index c.loop-lists.count c.piece_count.result
    c.lists-item.result (omega arith) (sym c.lists-item.is) c.loop-lists.invariant c.piece_count.ensures in
    omega (arith, h)

pub returns : goal.returns
returns c =
    c.loop-lists.invariant ∙ ap (λ l. count_within (sum_by (sum_by length) l))
    (take_all c.loop-lists.lists-index c.args.table.now c.loop-lists-test.false)
