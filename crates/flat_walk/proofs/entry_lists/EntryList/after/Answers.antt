use Rattle.std.proofs.Common.{◌≡◌, ◌<◌, ◌≤◌, ◌+◌, arith, length}
use Rattle.flat_walk.specs.EntryLists.{table_entries}
use Rattle.flat_walk.proofs.CodeLemmas.{dropped_after}
use Rattle.flat_walk.proofs.entry_lists.EntryList.after.Goals as goal

pub returns : goal.returns
returns c =
    let list = c.args.self.now in
    let entries = table_entries list.table in
    let sum = list.first + c.args.count in
    let next = c.saturating_add.result in
    let before : sum < length entries → next ≡ sum = λ h. omega (arith, h, c.are_few.ensures, c.saturating_add.ensures) in
    let past : length entries ≤ sum → length entries ≤ next = λ h. omega (arith, h, c.are_few.ensures, c.saturating_add.ensures) in
    dropped_after entries list.first c.args.count next before past
