use Rattle.shot_repeat.proofs.looking.check_number.Goals as goal

pub returns-then-ask_for_few-clause-ok : goal.returns-then-ask_for_few-clause-ok
returns-then-ask_for_few-clause-ok c = c.ask_for_few.ensures.0 c.if-ask_for_few.true
