use Rattle.std.proofs.Common.{refl, [], ◌∷◌, ◌++◌, ◌+◌}
use Rattle.oas_record.specs.Parts.{parts_at}
use Rattle.oas_record.specs.Records.{number_or}
use Rattle.oas_record.specs.Rows.{Square, pair, box, place}
use Rattle.oas_record.proofs.Joins.{fails_first, fails_then, fields_refused}
use Rattle.oas_record.proofs.Refusals.{handed_on}
use Rattle.oas_record.proofs.plain.plain_rest_at.Goals as goal

pub returns-in_err-width-clause-bad : goal.returns-in_err-width-clause-bad
returns-in_err-width-clause-bad c = handed_on _ _ _ c.from_residual-in_err-width.ensures.0 c.from_residual-in_err-width.ensures.1
    (fields_refused (record { info = Square; parts = parts_at 20 }) c.args.bytes.now c.args.at c.in_ok-info.info
    c.in_err-width.field-0.0 c.in_ok-info.ensures.there c.in_ok-info.ensures.ok c.in_ok-info.ensures.allowed
    (fails_then pair (box ++ place) c.in_ok-info.info c.in_ok-info.info c.args.bytes.now (c.args.at + 1)
    (number_or c.in_ok-layer.layer ∷ number_or c.in_ok-layer.datatype ∷ []) c.in_ok-layer.second
    c.in_err-width.field-0.0 refl c.in_ok-layer.ensures.ok
    (fails_first box place c.in_ok-info.info c.args.bytes.now c.in_ok-layer.second c.in_err-width.field-0.0 c.in_err-width.ensures.bad)))

pub returns-in_err-x-clause-bad : goal.returns-in_err-x-clause-bad
returns-in_err-x-clause-bad c = handed_on _ _ _ c.from_residual-in_err-x.ensures.0 c.from_residual-in_err-x.ensures.1
    (fields_refused (record { info = Square; parts = parts_at 20 }) c.args.bytes.now c.args.at c.in_ok-info.info
    c.in_err-x.field-0.0 c.in_ok-info.ensures.there c.in_ok-info.ensures.ok c.in_ok-info.ensures.allowed
    (fails_then pair (box ++ place) c.in_ok-info.info c.in_ok-info.info c.args.bytes.now (c.args.at + 1)
    (number_or c.in_ok-layer.layer ∷ number_or c.in_ok-layer.datatype ∷ []) c.in_ok-layer.second
    c.in_err-x.field-0.0 refl c.in_ok-layer.ensures.ok
    (fails_then box place c.in_ok-info.info c.in_ok-info.info c.args.bytes.now c.in_ok-layer.second
    (number_or c.in_ok-width.width ∷ number_or c.in_ok-width.height ∷ []) c.in_ok-width.third c.in_err-x.field-0.0
    refl c.in_ok-width.ensures.ok c.in_err-x.ensures.bad)))
