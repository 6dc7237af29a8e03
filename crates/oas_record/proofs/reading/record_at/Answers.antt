use Rattle.oas_record.proofs.Ends.{record_on}
use Rattle.oas_record.proofs.RecordReaders.{one_record, read_back, refused_back}
use Rattle.oas_record.proofs.Refusals.{ok_weaker}
use Rattle.oas_record.proofs.reading.record_at.Goals as goal

pub returns-clause-found : goal.returns-clause-found
returns-clause-found c = λ r next. read_back _ _
    (one_record c.args.bytes.now c.args.at c.args.tables) c.read_record.result c.read_record.ensures.ok
    c.read_record.ensures.bad (r, next)

pub returns-clause-refused : goal.returns-clause-refused
returns-clause-refused c = refused_back _ _
    (one_record c.args.bytes.now c.args.at c.args.tables) c.read_record.result c.read_record.ensures.ok
    c.read_record.ensures.bad

pub returns-clause-onward : goal.returns-clause-onward
returns-clause-onward c = ok_weaker _ _ c.read_record.result (λ r. record_on c.args.bytes.now c.args.at c.args.tables r.0 r.1) c.read_record.ensures.ok
