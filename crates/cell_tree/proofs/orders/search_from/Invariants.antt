use Rattle.cell_tree.specs.Searches.{IsSearch, work_left}
use Rattle.cell_tree.proofs.orders.search_from.Given as goal

abbrev pub invariant-loop-stop : goal.invariant-loop-stop
invariant-loop-stop l = IsSearch l.linked.cells l.top l.search.marks.items l.search.path.items l.search.order.items l.search.cycle.items

abbrev pub decreases-loop-stop : goal.decreases-loop-stop
decreases-loop-stop l = work_left l.linked.cells l.search.marks.items l.search.path.items
