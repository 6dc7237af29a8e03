use Rattle.std.proofs.Common.{sym, refl, ◌∙◌}
use Rattle.deck_text.proofs.rules.unknown_name.Goals as goal

pub returns-then-has : goal.returns-then-has
returns-then-has c = λ saids is. rw (sym (c.has.ensures saids is) ∙ c.if-has.true) refl

pub returns : goal.returns
returns c = λ saids is. rw (sym (c.has.ensures saids is) ∙ c.if-has.false) refl
