use Rattle.std.proofs.Common.{sym, ◌∙◌}
use Rattle.deck_text.proofs.TokenLemmas.{token_text}
use Rattle.deck_text.proofs.kinds.file_value.Goals as goal

pub returns-in-Err : goal.returns-in-Err
returns-in-Err c = absurd (c.in-Err.ensures.cases.0 (token_text 255 c.args.token.now (sym c.is_token.ensures ∙ c.if-not-is_token.false)))
