use Rattle.std.proofs.Common.{◌++◌, [], replicate, ap, ◌∙◌, arith}
use Rattle.flat_walk.proofs.EntryLemmas.{lists_each, single_all, single_each}
use Rattle.flat_walk.proofs.cell_lists.CellLists.push_each.Goals as goal

pub invariant_of-self-then-alone : goal.invariant_of-self-then-alone
invariant_of-self-then-alone c =
    let s = c.self.inside in
    single_all s.single c.args.count c.len-self-inside.result s.table c.push_each.new.self c.in_ok-push_each.ensures.ok
    (omega (arith, c.if-alone.true, c.len.ensures)) c.len-self-inside.ensures c.self.invariant

pub invariant_of-self-else-alone : goal.invariant_of-self-else-alone
invariant_of-self-else-alone c =
    let s = c.self.inside in
    single_each s.single c.args.count s.table c.push_each.new.self c.in_ok-push_each.ensures.ok c.self.invariant

pub returns-then-alone-clause-ok : goal.returns-then-alone-clause-ok
returns-then-alone-clause-ok c =
    lists_each c.args.count c.self.inside.table c.push_each.new.self c.in_ok-push_each.ensures.ok
    ∙ ap (λ l. l ++ replicate c.args.count []) c.self.view_is

pub returns-else-alone-clause-ok : goal.returns-else-alone-clause-ok
returns-else-alone-clause-ok c =
    lists_each c.args.count c.self.inside.table c.push_each.new.self c.in_ok-push_each.ensures.ok
    ∙ ap (λ l. l ++ replicate c.args.count []) c.self.view_is
