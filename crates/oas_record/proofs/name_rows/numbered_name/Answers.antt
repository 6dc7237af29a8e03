use Rattle.oas_record.proofs.NameLemmas.{numbered_name_there, no_text_of_name, no_number_of_name}
use Rattle.oas_record.proofs.Refusals.{handed_on}
use Rattle.oas_record.proofs.name_rows.numbered_name.Goals as goal

pub returns-clause-ok : goal.returns-clause-ok
returns-clause-ok c = numbered_name_there c.args.kind c.args.bytes.now c.args.at c.in_ok-text.text c.in_ok-number.number c.in_ok-number.next
    c.in_ok-text.ensures.ok c.in_ok-number.ensures.ok

pub returns-in_err-text-clause-bad : goal.returns-in_err-text-clause-bad
returns-in_err-text-clause-bad c = handed_on _ _ _ c.from_residual.ensures.0 c.from_residual.ensures.1
    (no_text_of_name c.args.kind c.args.bytes.now c.args.at c.in_err-text.field-0.0 c.in_err-text.ensures.bad)

pub returns-in_err-number-clause-bad : goal.returns-in_err-number-clause-bad
returns-in_err-number-clause-bad c = handed_on _ _ _ c.from_residual-in_err-number.ensures.0 c.from_residual-in_err-number.ensures.1
    (no_number_of_name c.args.kind c.args.bytes.now c.args.at c.in_ok-text.text c.in_err-number.field-0.0
    c.in_ok-text.ensures.ok c.in_err-number.ensures.bad)
