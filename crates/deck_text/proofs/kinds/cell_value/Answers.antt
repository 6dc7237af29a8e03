use Rattle.std.proofs.Common.{sym, ◌∙◌}
use Rattle.deck_text.proofs.TokenLemmas.{token_cell}
use Rattle.deck_text.proofs.kinds.cell_value.Goals as goal

pub invariant_of-result : goal.invariant_of-result
invariant_of-result c = record { is_name = token_cell c.args.token.now (sym c.is_token.ensures ∙ c.if-not-is_token.false) }
