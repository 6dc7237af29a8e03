use Rattle.std.proofs.Common.{[], ◌∷◌, sym, ◌∙◌}
use Rattle.deck_text.proofs.Loops.{first_unknown, next_unknown}
use Rattle.deck_text.proofs.rules.unknown_in.Goals as goal

pub returns-then-not-has : goal.returns-then-not-has
returns-then-not-has c = λ saids is. rw c.in-Combine.is
    (first_unknown saids c.in-Combine.a.now (c.in-Combine.b.now ∷ [])
    (sym (c.has.ensures saids is) ∙ c.if-not-has.true))

pub returns-else-not-has : goal.returns-else-not-has
returns-else-not-has c = λ saids is.
    rw (
      c.in-Combine.is,
      next_unknown saids c.in-Combine.a.now (c.in-Combine.b.now ∷ [])
          (sym (c.has.ensures saids is) ∙ c.if-not-has.false),
    ) (c.unknown_name.ensures saids is)

pub returns-in-Resize : goal.returns-in-Resize
returns-in-Resize c = λ saids is. rw c.in-Resize.is (c.unknown_name-in-Resize.ensures saids is)

pub returns-in-Invert : goal.returns-in-Invert
returns-in-Invert c = λ saids is. rw c.in-Invert.is (c.unknown_name-in-Invert.ensures saids is)

pub returns-in-Mirror : goal.returns-in-Mirror
returns-in-Mirror c = λ saids is. rw c.in-Mirror.is (c.unknown_name-in-Mirror.ensures saids is)
