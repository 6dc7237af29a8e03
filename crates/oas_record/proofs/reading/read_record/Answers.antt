use Rattle.oas_record.proofs.Refusals.{ok_weaker, err_weaker}
use Rattle.oas_record.proofs.RecordLemmas.{record_there, record_missing}
use Rattle.oas_record.proofs.reading.read_record.Goals as goal

pub returns-clause-ok : goal.returns-clause-ok
returns-clause-ok c = ok_weaker _ _ c.rest_at.result
    (λ r. record_there c.args.bytes.now c.args.at c.in_ok-id.id c.args.tables r.0 r.1 c.in_ok-id.ensures.there
    c.in_ok-id.ensures.ok) c.rest_at.ensures.ok

pub returns-clause-bad : goal.returns-clause-bad
returns-clause-bad c = err_weaker _ _ c.rest_at.result
    (λ bad. record_missing c.args.bytes.now c.args.at c.in_ok-id.id c.args.tables bad c.in_ok-id.ensures.there
    c.in_ok-id.ensures.ok) c.rest_at.ensures.bad
