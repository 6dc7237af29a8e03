use Rattle.column_sweep.proofs.sweep.plain_unless.Goals as goal

pub returns-in-Whole-clause-swept : goal.returns-in-Whole-clause-swept
returns-in-Whole-clause-swept g c = rw c.in-Whole.is at c.in_ok-swept.ensures.tried

pub returns-in-GivenUp-clause-long : goal.returns-in-GivenUp-clause-long
returns-in-GivenUp-clause-long g c = λ _. rw c.in-GivenUp.is at c.in_ok-swept.ensures.long
