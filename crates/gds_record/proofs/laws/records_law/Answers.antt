use Rattle.gds_record.proofs.ForCallers.{records_unique}
use Rattle.gds_record.proofs.RecordLists.{records_exist}
use Rattle.gds_record.proofs.laws.records_law.Goals as goal

pub returns-clause-exist : goal.returns-clause-exist
returns-clause-exist c = records_exist

pub returns-clause-unique : goal.returns-clause-unique
returns-clause-unique c = records_unique
