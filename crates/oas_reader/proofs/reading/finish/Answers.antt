use Rattle.oas_reader.proofs.reading.finish.Goals as goal

pub returns-clause-bad : goal.returns-clause-bad
returns-clause-bad c = λ wanted past last reader ends none. c.in-Err.ensures.bad wanted past last reader.names reader.drafts ends none
