use Rattle.std.proofs.Common.{length, ◌<◌}
use Rattle.cell_tree.proofs.SlotLemmas.{All-slot}
use Rattle.cell_tree.proofs.TreeLemmas.{known, name_of, unknown_is, among_shown, shown_among}
use Rattle.cell_tree.proofs.trees.ask_names.Goals as goal

pub returns-in-Some-clause-err : goal.returns-in-Some-clause-err
returns-in-Some-clause-err c =
    let cells = c.args.linked.now.cells in let found = c.requires.found in let place = c.in-Some.place in let some = c.in-Some.ensures.some in
    let order = c.args.found.now.order.items in
    let among = among_shown order c.as_slice.result.now place.cell c.as_slice.ensures.value some.0 in
    unknown_is cells c.args.found.now.top place.cell place.placement c.in_ok-cell.cell c.in_ok-target.target
    c.placements.result.now c.index-placements-place.result
    (found.reachable among.0 place.cell among.1) some.1
    (name_of cells c.cells.result.now place.cell c.index-cells-place.result c.in_ok-cell.cell c.cells.ensures
    (All-slot order (λ n. n < length cells) found.within among.0 place.cell among.1) c.in_ok-cell.ensures)
    c.placements.ensures c.index-placements-place.is c.in_ok-target.ensures

pub returns-clause-ok : goal.returns-clause-ok
returns-clause-ok c =
    let order = c.args.found.now.order.items in
    known c.args.linked.now.cells c.args.found.now.top order c.requires.found.all
    (λ n k among at. c.in_default.ensures.none n k (shown_among order c.as_slice.result.now n c.as_slice.ensures.value among) at)
