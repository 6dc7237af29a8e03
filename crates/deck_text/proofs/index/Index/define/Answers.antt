use Rattle.std.proofs.lemmas.Map.Text.{btree_map_updates_str}
use Rattle.deck_text.proofs.index.Index.define.Goals as goal

pub returns-clause-names : goal.returns-clause-names
returns-clause-names c = btree_map_updates_str c.args.name.now c.args.self.now.names c.insert.new.self _ c.in-Ok.ensures.updates
