use Rattle.oas_reader.proofs.laws.reading_laws.Goals as goal
use Rattle.oas_reader.proofs.LawLemmas.{one_layout, one_fault, no_layout_with_fault}

pub returns-clause-layout : goal.returns-clause-layout
returns-clause-layout c = one_layout c.record_laws.ensures.one_record

pub returns-clause-fault : goal.returns-clause-fault
returns-clause-fault c = one_fault c.record_laws.ensures.one_record c.record_laws.ensures.record_or_fault c.record_laws.ensures.one_fault

pub returns-clause-apart : goal.returns-clause-apart
returns-clause-apart c = no_layout_with_fault c.record_laws.ensures.one_record c.record_laws.ensures.record_or_fault
