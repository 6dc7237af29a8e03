use Rattle.gds_reader.proofs.laws.reading_laws.Goals as goal
use Rattle.gds_reader.proofs.FaultLemmas.{one_layout, one_fault, no_layout_with_fault}
use Rattle.gds_reader.proofs.NeitherLemmas.{others_have_fault}

pub returns-clause-layout : goal.returns-clause-layout
returns-clause-layout c = one_layout

pub returns-clause-fault : goal.returns-clause-fault
returns-clause-fault c = one_fault

pub returns-clause-apart : goal.returns-clause-apart
returns-clause-apart c = no_layout_with_fault

pub returns-clause-others_have_fault : goal.returns-clause-others_have_fault
returns-clause-others_have_fault c = others_have_fault
