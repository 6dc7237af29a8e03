use Rattle.std.proofs.Common.{◌≡◌, [], length, arith}
use Rattle.std.proofs.lemmas.List.{nil_from_length}
use Rattle.std.proofs.lemmas.Bool.Decides.{nat_tests}
use Rattle.cell_tree.proofs.TreeLemmas.{acyclic, in_order, ring_within, all_shown}
use Rattle.cell_tree.proofs.trees.ask_cycle.Goals as goal

empty : (c : goal.Then-is_empty) → c.args.found.now.cycle.items ≡ []
empty c = let none : length c.args.found.now.cycle.items ≡ 0 = grind (arith, nat_tests) in nil_from_length c.args.found.now.cycle.items none

pub returns-then-is_empty-clause-ok : goal.returns-then-is_empty-clause-ok
returns-then-is_empty-clause-ok c =
    acyclic c.args.linked.now.cells c.args.found.now.top c.args.found.now.order.items c.args.found.now.cycle.items
    c.requires.found (empty c)

pub returns-then-is_empty-clause-order : goal.returns-then-is_empty-clause-order
returns-then-is_empty-clause-order c =
    in_order c.args.linked.now.cells c.args.found.now.top c.args.found.now.order.items c.args.found.now.cycle.items
    c.requires.found (empty c)

pub names_of-requires : goal.names_of-requires
names_of-requires c =
    all_shown 0 c.args.found.now.cycle.items c.as_slice.result.now c.args.linked.now.cells c.cells.result.now
    c.as_slice.ensures.value c.cells.ensures
    (ring_within c.args.linked.now.cells c.args.found.now.top c.args.found.now.cycle.items c.requires.top c.requires.found.cyclic)
