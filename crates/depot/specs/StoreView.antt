-- What a store in memory shows: its content, in which `blank` stands for nothing.
use Rattle.std.specs.Prelude.{false, option_map}
use Rattle.depot.specs.declared.store.Store.TheInside.{Inside}
use Rattle.depot.specs.Content.{Content}
use Rattle.depot.specs.Filing.{files_of, left_of, name_at, IsReadAt, IsWrittenAt}

abbrev pub store_content : Inside → Content
store_content s = record {
  held = files_of s.held.items;
  blank = false;
  left = left_of s.held.items s.reading s.given;
  made = files_of s.made.items;
  current = option_map (name_at s.made.items) s.writing;
  said = s.said.items;
}

pub record IsSound (s : Inside) : Type 0 where
  pub reading : IsReadAt s.held.items s.reading s.given
  pub writing : IsWrittenAt s.made.items s.writing
