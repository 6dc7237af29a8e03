use Rattle.std.proofs.Common.{ap, ◌∙◌}
use Rattle.std.specs.Prelude.{is_some}
use Rattle.deck_text.proofs.IndexLemmas.{has_is}
use Rattle.deck_text.proofs.index.Index.has.Goals as goal

pub returns : goal.returns
returns c = λ saids is. c.is_some.ensures ∙ ap is_some (c.defined.ensures ∙ is.names c.args.name.now) ∙ has_is 0 saids c.args.name.now
