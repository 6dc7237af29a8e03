use Rattle.std.proofs.lemmas.Map.Text.{btree_map_updates_str}
use Rattle.deck_text.proofs.index.Index.write.Goals as goal

pub returns-clause-files : goal.returns-clause-files
returns-clause-files c = btree_map_updates_str c.args.file.now c.args.self.now.files c.insert.new.self _ c.in-Ok.ensures.updates
