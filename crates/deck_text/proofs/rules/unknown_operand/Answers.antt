use Rattle.deck_text.proofs.rules.unknown_operand.Goals as goal

pub returns-in-Write : goal.returns-in-Write
returns-in-Write c = λ saids is. rw c.in-Write.is (c.unknown_name.ensures saids is)
