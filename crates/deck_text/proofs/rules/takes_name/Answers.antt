use Rattle.std.proofs.Common.{sym, ◌∙◌}
use Rattle.deck_text.proofs.rules.takes_name.Goals as goal

pub returns-else-eq-2 : goal.returns-else-eq-2
returns-else-eq-2 c = λ saids is. rw
    (c.in-Write.is, sym c.eq.ensures ∙ c.if-eq.false, sym c.eq-in-Write.ensures ∙ c.if-eq-2.false)
    (c.is_taken.ensures saids is)
