use Rattle.std.proofs.Common.{◌∙◌}
use Rattle.deck_text.proofs.index.Index.is_taken.Goals as goal

pub returns : goal.returns
returns c = λ saids is. c.contains_key.ensures ∙ is.files c.args.file.now
