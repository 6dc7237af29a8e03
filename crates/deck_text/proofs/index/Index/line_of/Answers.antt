use Rattle.std.proofs.Common.{ap, sym, ◌∙◌}
use Rattle.std.specs.Prelude.{option_map}
use Rattle.deck_text.specs.declared.index.Defined.{Defined}
use Rattle.deck_text.proofs.IndexLemmas.{line_is}
use Rattle.deck_text.proofs.index.Index.line_of.Goals as goal

pub returns-in-Some : goal.returns-in-Some
returns-in-Some c = λ saids is. ap (option_map (λ (d : Defined). d.line))
    (sym c.in-Some.is ∙ c.defined.ensures ∙ is.names c.args.name.now) ∙ line_is 0 saids c.args.name.now

pub returns-in-None : goal.returns-in-None
returns-in-None c = λ saids is. ap (option_map (λ (d : Defined). d.line))
    (sym c.in-None.is ∙ c.defined.ensures ∙ is.names c.args.name.now) ∙ line_is 0 saids c.args.name.now
