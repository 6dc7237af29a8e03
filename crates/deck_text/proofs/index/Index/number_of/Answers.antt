use Rattle.std.proofs.Common.{Option, ap, sym, ◌∙◌}
use Rattle.std.specs.Option.{option_map_or}
use Rattle.deck_text.specs.Rules.{count_before, is_definition}
use Rattle.deck_text.specs.declared.index.Defined.{Defined}
use Rattle.deck_text.proofs.IndexLemmas.{number_at}
use Rattle.deck_text.proofs.index.Index.number_of.Goals as goal

pub returns-in-Some : goal.returns-in-Some
returns-in-Some c = λ saids is.
    ap (λ (o : Option Defined). option_map_or (λ d. d.number) o (count_before is_definition saids))
    (sym c.in-Some.is ∙ c.defined.ensures ∙ is.names c.args.name.now) ∙ number_at saids c.args.name.now

pub returns-in-None : goal.returns-in-None
returns-in-None c = λ saids is.
    is.definitions
    ∙ ap (λ (o : Option Defined). option_map_or (λ d. d.number) o (count_before is_definition saids))
    (sym c.in-None.is ∙ c.defined.ensures ∙ is.names c.args.name.now) ∙ number_at saids c.args.name.now
