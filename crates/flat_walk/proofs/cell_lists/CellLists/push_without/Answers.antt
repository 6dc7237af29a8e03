use Rattle.flat_walk.specs.Kept.{bare_ones}
use Rattle.flat_walk.proofs.EntryLemmas.{single_pushed, lists_pushed}
use Rattle.flat_walk.proofs.cell_lists.CellLists.push_without.Goals as goal

pub invariant_of-self : goal.invariant_of-self
invariant_of-self c =
    single_pushed c.push_without.result c.self.inside.single c.self.inside.table c.push_without.new.self (bare_ones c.args.more)
    c.push_without.ensures.ok c.push_without.ensures.err c.self.invariant

pub returns-clause-ok : goal.returns-clause-ok
returns-clause-ok c =
    lists_pushed c.push_without.result c.self.inside.table c.push_without.new.self c.args.more c.args.self.now c.push_without.ensures.ok c.self.view_is
