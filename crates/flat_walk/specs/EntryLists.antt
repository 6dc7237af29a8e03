-- The entries of a table from one on. This is for the contracts of the walk's own functions.
use Rattle.std.specs.Prelude.{List, [], Option, Some, None, drop}
use Rattle.std.specs.Borrow.{Bor}
use Rattle.flat_walk.specs.Kept.{Entry}
use Rattle.flat_walk.specs.declared.entry_lists.EntryList.{EntryList}

-- those of a table, or none
abbrev pub table_entries : Option (Bor (List Entry)) → List Entry
table_entries None = []
table_entries (Some table) = table.now

abbrev pub entries_in : EntryList → List Entry
entries_in list = drop list.first (table_entries list.table)
