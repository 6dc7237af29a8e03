use Rattle.std.proofs.Common.{refl, [], ◌∷◌, ◌++◌, ◌+◌, inl}
use Rattle.oas_record.specs.Parts.{parts_at}
use Rattle.oas_record.specs.Records.{number_or, span_or, called_or}
use Rattle.oas_record.specs.Rows.{NameBy, Count, Values, Bit, Clear, Fifteen, Below, when, with_count}
use Rattle.oas_record.proofs.Joins.{joined, fails_first, fails_then, info_refused, fields_refused}
use Rattle.oas_record.proofs.Refusals.{handed_on}
use Rattle.oas_record.proofs.property_rows.property.Goals as goal

pub returns-clause-ok : goal.returns-clause-ok
returns-clause-ok c =
    record {
      id_is = refl;
      row = record {
        within = c.in_ok-info.ensures.there;
        byte = c.in_ok-info.ensures.ok;
        allowed = c.in_ok-info.ensures.allowed;
        fields_stand = (joined (when (Bit 2) (NameBy 1) ∷ [])
            ((when Fifteen Count ∷ []) ++ (when (Clear 3) Values ∷ [])) c.in_ok-info.info c.in_ok-info.info
            c.args.bytes.now (c.args.at + 1) (called_or c.in_ok-name.name ∷ [])
            ((number_or c.in_ok-count.count ∷ []) ++ (span_or c.in_ok-values.values ∷ [])) c.in_ok-name.second
            c.in_ok-values.next refl (c.in_ok-name.second, c.in_ok-name.ensures.ok, refl)
            (joined (when Fifteen Count ∷ []) (when (Clear 3) Values ∷ []) c.in_ok-info.info
            (with_count (number_or c.in_ok-count.count) c.in_ok-info.info) c.args.bytes.now c.in_ok-name.second
            (number_or c.in_ok-count.count ∷ [])
            (span_or c.in_ok-values.values ∷ []) c.in_ok-count.third c.in_ok-values.next refl
            (c.in_ok-count.third, c.in_ok-count.ensures.ok, refl)
            (c.in_ok-values.next, c.in_ok-values.ensures.ok, refl)));
      };
    }

pub returns-in_err-info-clause-bad : goal.returns-in_err-info-clause-bad
returns-in_err-info-clause-bad c = handed_on _ _ _ c.from_residual.ensures.0 c.from_residual.ensures.1
    ((info_refused (record { info = Below 256; parts = parts_at 28 }) c.args.bytes.now c.args.at
    c.in_err-info.field-0.0 c.in_err-info.ensures.bad))

pub returns-in_err-name-clause-bad : goal.returns-in_err-name-clause-bad
returns-in_err-name-clause-bad c =
    handed_on _ _ _ c.from_residual-in_err-name.ensures.0 c.from_residual-in_err-name.ensures.1
    ((fields_refused
    (record { info = Below 256; parts = parts_at 28 }) c.args.bytes.now c.args.at c.in_ok-info.info
    c.in_err-name.field-0.0 c.in_ok-info.ensures.there c.in_ok-info.ensures.ok c.in_ok-info.ensures.allowed
    (fails_first (when (Bit 2) (NameBy 1) ∷ [])
    ((when Fifteen Count ∷ []) ++ (when (Clear 3) Values ∷ [])) c.in_ok-info.info c.args.bytes.now
    (c.args.at + 1) c.in_err-name.field-0.0 (inl (c.in_err-name.ensures.bad)))))

pub returns-in_err-count-clause-bad : goal.returns-in_err-count-clause-bad
returns-in_err-count-clause-bad c =
    handed_on _ _ _ c.from_residual-in_err-count.ensures.0 c.from_residual-in_err-count.ensures.1
    ((fields_refused
    (record { info = Below 256; parts = parts_at 28 }) c.args.bytes.now c.args.at c.in_ok-info.info
    c.in_err-count.field-0.0 c.in_ok-info.ensures.there c.in_ok-info.ensures.ok c.in_ok-info.ensures.allowed
    (fails_then (when (Bit 2) (NameBy 1) ∷ [])
    ((when Fifteen Count ∷ []) ++ (when (Clear 3) Values ∷ [])) c.in_ok-info.info c.in_ok-info.info c.args.bytes.now
    (c.args.at + 1) (called_or c.in_ok-name.name ∷ []) c.in_ok-name.second c.in_err-count.field-0.0 refl
    (c.in_ok-name.second, c.in_ok-name.ensures.ok, refl)
    (fails_first (when Fifteen Count ∷ [])
    (when (Clear 3) Values ∷ []) c.in_ok-info.info c.args.bytes.now c.in_ok-name.second c.in_err-count.field-0.0
    (inl (c.in_err-count.ensures.bad))))))

pub returns-in_err-values-clause-bad : goal.returns-in_err-values-clause-bad
returns-in_err-values-clause-bad c =
    handed_on _ _ _ c.from_residual-in_err-values.ensures.0 c.from_residual-in_err-values.ensures.1
    ((fields_refused
    (record { info = Below 256; parts = parts_at 28 }) c.args.bytes.now c.args.at c.in_ok-info.info
    c.in_err-values.field-0.0 c.in_ok-info.ensures.there c.in_ok-info.ensures.ok c.in_ok-info.ensures.allowed
    (fails_then (when (Bit 2) (NameBy 1) ∷ [])
    ((when Fifteen Count ∷ []) ++ (when (Clear 3) Values ∷ [])) c.in_ok-info.info c.in_ok-info.info c.args.bytes.now
    (c.args.at + 1) (called_or c.in_ok-name.name ∷ []) c.in_ok-name.second c.in_err-values.field-0.0 refl
    (c.in_ok-name.second, c.in_ok-name.ensures.ok, refl)
    (fails_then (when Fifteen Count ∷ []) (when (Clear 3) Values ∷ []) c.in_ok-info.info
    (with_count (number_or c.in_ok-count.count) c.in_ok-info.info) c.args.bytes.now c.in_ok-name.second
    (number_or c.in_ok-count.count ∷ []) c.in_ok-count.third c.in_err-values.field-0.0 refl
    (c.in_ok-count.third, c.in_ok-count.ensures.ok, refl) (inl (c.in_err-values.ensures.bad))))))
