use Rattle.oas_record.proofs.NameLemmas.{name_there, no_name}
use Rattle.oas_record.proofs.Refusals.{handed_on}
use Rattle.oas_record.proofs.name_rows.name.Goals as goal

pub returns-clause-ok : goal.returns-clause-ok
returns-clause-ok c = name_there c.args.kind c.args.bytes.now c.args.at c.in_ok-text.text c.in_ok-text.ensures.ok

pub returns-in_err-text-clause-bad : goal.returns-in_err-text-clause-bad
returns-in_err-text-clause-bad c = handed_on _ _ _ c.from_residual.ensures.0 c.from_residual.ensures.1
    (no_name c.args.kind c.args.bytes.now c.args.at c.in_err-text.field-0.0 c.in_err-text.ensures.bad)
