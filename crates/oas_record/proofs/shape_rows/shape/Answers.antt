use Rattle.std.proofs.Common.{refl, [], ◌∷◌, ◌++◌, ◌+◌}
use Rattle.oas_record.specs.Records.{number_or, own_fields}
use Rattle.oas_record.specs.Rows.{pair, place}
use Rattle.oas_record.specs.Shapes.{own_parts, switches_by}
use Rattle.oas_record.proofs.Joins.{fails_first, fails_then}
use Rattle.oas_record.proofs.Refusals.{handed_on}
use Rattle.oas_record.proofs.ShapeLemmas.{shape_there, info_missing, fields_missing, no_place_by}
use Rattle.oas_record.proofs.shape_rows.shape.Goals as goal

pub returns-clause-ok : goal.returns-clause-ok
returns-clause-ok c = shape_there c.args.form c.args.bytes.now c.args.at (record {
  info = c.in_ok-info.info;
  layer = c.in_ok-layer.layer;
  datatype = c.in_ok-layer.datatype;
  x = c.in_ok-x.x;
  y = c.in_ok-x.y;
  repetition = c.in_ok-x.repetition;
}) c.in_ok-kind.kind c.in_ok-layer.second c.in_ok-kind.third c.in_ok-x.next c.in_ok-info.ensures.there c.in_ok-info.ensures.ok
    c.in_ok-info.ensures.allowed c.in_ok-layer.ensures.ok c.in_ok-kind.ensures.ok c.in_ok-x.ensures.ok

pub returns-in_err-info-clause-bad : goal.returns-in_err-info-clause-bad
returns-in_err-info-clause-bad c = handed_on _ _ _ c.from_residual.ensures.0 c.from_residual.ensures.1
    (info_missing c.args.form c.args.bytes.now c.args.at c.in_err-info.field-0.0 c.in_err-info.ensures.bad)

pub returns-in_err-layer-clause-bad : goal.returns-in_err-layer-clause-bad
returns-in_err-layer-clause-bad c = handed_on _ _ _ c.from_residual-in_err-layer.ensures.0 c.from_residual-in_err-layer.ensures.1
    (fields_missing c.args.form c.args.bytes.now c.args.at c.in_ok-info.info c.in_err-layer.field-0.0
    c.in_ok-info.ensures.there c.in_ok-info.ensures.ok c.in_ok-info.ensures.allowed
    (fails_first pair (own_parts c.args.form ++ place) c.in_ok-info.info c.args.bytes.now (c.args.at + 1) c.in_err-layer.field-0.0
    c.in_err-layer.ensures.bad))

pub returns-in_err-kind-clause-bad : goal.returns-in_err-kind-clause-bad
returns-in_err-kind-clause-bad c = handed_on _ _ _ c.from_residual-in_err-kind.ensures.0 c.from_residual-in_err-kind.ensures.1
    (fields_missing c.args.form c.args.bytes.now c.args.at c.in_ok-info.info c.in_err-kind.field-0.0
    c.in_ok-info.ensures.there c.in_ok-info.ensures.ok c.in_ok-info.ensures.allowed
    (fails_then pair (own_parts c.args.form ++ place) c.in_ok-info.info c.in_ok-info.info c.args.bytes.now (c.args.at + 1)
    (number_or c.in_ok-layer.layer ∷ number_or c.in_ok-layer.datatype ∷ []) c.in_ok-layer.second c.in_err-kind.field-0.0 refl c.in_ok-layer.ensures.ok
    (fails_first (own_parts c.args.form) place c.in_ok-info.info c.args.bytes.now c.in_ok-layer.second c.in_err-kind.field-0.0 c.in_err-kind.ensures.bad)))

pub returns-in_err-x-clause-bad : goal.returns-in_err-x-clause-bad
returns-in_err-x-clause-bad c = handed_on _ _ _ c.from_residual-in_err-x.ensures.0 c.from_residual-in_err-x.ensures.1
    (fields_missing c.args.form c.args.bytes.now c.args.at c.in_ok-info.info c.in_err-x.field-0.0
    c.in_ok-info.ensures.there c.in_ok-info.ensures.ok c.in_ok-info.ensures.allowed
    (fails_then pair (own_parts c.args.form ++ place) c.in_ok-info.info c.in_ok-info.info c.args.bytes.now (c.args.at + 1)
    (number_or c.in_ok-layer.layer ∷ number_or c.in_ok-layer.datatype ∷ []) c.in_ok-layer.second c.in_err-x.field-0.0 refl c.in_ok-layer.ensures.ok
    (fails_then (own_parts c.args.form) place c.in_ok-info.info (switches_by c.in_ok-kind.kind c.in_ok-info.info) c.args.bytes.now
    c.in_ok-layer.second (own_fields c.in_ok-kind.kind) c.in_ok-kind.third c.in_err-x.field-0.0 c.in_ok-kind.ensures.ok.switches c.in_ok-kind.ensures.ok.fields
    (no_place_by c.in_ok-kind.kind c.in_ok-info.info c.args.bytes.now c.in_ok-kind.third c.in_err-x.field-0.0 c.in_err-x.ensures.bad))))
