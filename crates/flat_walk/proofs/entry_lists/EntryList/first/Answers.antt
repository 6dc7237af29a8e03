use Rattle.flat_walk.proofs.CodeLemmas.{found_first}
use Rattle.flat_walk.proofs.entry_lists.EntryList.first.Goals as goal

pub returns-clause-first : goal.returns-clause-first
returns-clause-first c = rw c.in_ok-self.was (found_first c.in_ok-self.field-0.now c.args.self.now.first c.get.result c.get.ensures.there)
