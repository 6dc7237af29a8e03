use Rattle.flat_walk.specs.EntryLists.{entries_in}
use Rattle.flat_walk.proofs.CodeLemmas.{found_later}
use Rattle.flat_walk.proofs.entry_lists.EntryList.get.Goals as goal

pub returns-clause-there : goal.returns-clause-there
returns-clause-there c =
    found_later (entries_in c.args.self.now) (entries_in c.after.result) c.args.number c.first.result c.after.ensures c.first.ensures.first
