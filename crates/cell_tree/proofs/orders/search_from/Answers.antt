use Rattle.std.proofs.Common.{◌≡◌, ◌∙◌, ap, length, replicate, set, [], subst, arith}
use Rattle.std.proofs.lemmas.List.{nil_from_length}
use Rattle.cell_tree.specs.Searches.{IsSearch}
use Rattle.cell_tree.specs.declared.orders.Mark.TheVariants.{New, Open}
use Rattle.cell_tree.proofs.SearchLemmas.{begins, ends, same_search}
use Rattle.cell_tree.proofs.orders.search_from.Goals as goal

pub loop-stop-init : goal.loop-stop-init
loop-stop-init c = same_search c.args.linked.now.cells c.args.top _ _ _ _ _ _ _ _
    (c.in_ok-search.ensures.marks ∙ ap (λ cells. set (replicate (length cells) New) c.args.top Open) c.cells.ensures)
    c.in_ok-search.ensures.path c.in_ok-search.ensures.order c.in_ok-search.ensures.cycle (begins c.args.linked.now.cells c.args.top c.requires)

pub returns-clause-found : goal.returns-clause-found
returns-clause-found c =
    let cells = c.args.linked.now.cells in let search = c.loop-stop.search in
    let none = c.in_default.ensures.cases in
    let empty : search.path.items ≡ [] = nil_from_length search.path.items (omega arith) in
    ends cells c.args.top search.marks.items search.order.items search.cycle.items c.requires
    (subst (λ p. IsSearch cells c.args.top search.marks.items p search.order.items search.cycle.items) empty c.loop-stop.invariant)
