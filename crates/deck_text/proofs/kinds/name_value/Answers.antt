use Rattle.std.proofs.Common.{sym, ◌∙◌}
use Rattle.deck_text.proofs.TokenLemmas.{name_text}
use Rattle.deck_text.proofs.kinds.name_value.Goals as goal

pub returns-in-Err : goal.returns-in-Err
returns-in-Err c = absurd (c.in-Err.ensures.cases.0 (name_text c.args.token.now (sym c.is_name.ensures ∙ c.if-not-is_name.false)))
