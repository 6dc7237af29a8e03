use Rattle.std.proofs.Common.{refl, [], ◌∷◌, ◌++◌, ◌+◌, inl}
use Rattle.oas_record.specs.Parts.{parts_at}
use Rattle.oas_record.specs.Records.{number_or, place_of}
use Rattle.oas_record.specs.Rows.{Number, Text, IsNumber, IsSpan, Always, Below, when, pair, place}
use Rattle.oas_record.proofs.Joins.{joined, fails_first, fails_then, info_refused, fields_refused}
use Rattle.oas_record.proofs.Refusals.{handed_on}
use Rattle.oas_record.proofs.shape_rows.xgeometry.Goals as goal

pub returns-clause-ok : goal.returns-clause-ok
returns-clause-ok c =
    record {
      id_is = refl;
      row = record {
        within = c.in_ok-info.ensures.there;
        byte = c.in_ok-info.ensures.ok;
        allowed = c.in_ok-info.ensures.allowed;
        fields_stand = (joined (when Always Number ∷ [])
            (pair ++ ((when Always Text ∷ []) ++ place)) c.in_ok-info.info c.in_ok-info.info c.args.bytes.now
            (c.args.at + 1) (IsNumber c.in_ok-attribute.attribute ∷ [])
            ((number_or c.in_ok-layer.layer ∷ number_or c.in_ok-layer.datatype ∷ [])
            ++ ((IsSpan c.in_ok-text.text ∷ []) ++ (place_of c.in_ok-x.x c.in_ok-x.y c.in_ok-x.repetition)))
            c.in_ok-attribute.second c.in_ok-x.next refl
            (c.in_ok-attribute.second, (c.in_ok-attribute.attribute, c.in_ok-attribute.ensures.ok, refl), refl)
            (joined pair ((when Always Text ∷ []) ++ place) c.in_ok-info.info c.in_ok-info.info c.args.bytes.now
            c.in_ok-attribute.second (number_or c.in_ok-layer.layer ∷ number_or c.in_ok-layer.datatype ∷ [])
            ((IsSpan c.in_ok-text.text ∷ []) ++ (place_of c.in_ok-x.x c.in_ok-x.y c.in_ok-x.repetition))
            c.in_ok-layer.third c.in_ok-x.next refl c.in_ok-layer.ensures.ok
            (joined (when Always Text ∷ []) place c.in_ok-info.info c.in_ok-info.info c.args.bytes.now
            c.in_ok-layer.third (IsSpan c.in_ok-text.text ∷ [])
            (place_of c.in_ok-x.x c.in_ok-x.y c.in_ok-x.repetition) c.in_ok-text.text.1 c.in_ok-x.next refl
            (c.in_ok-text.text.1, (c.in_ok-text.text.0, c.in_ok-text.ensures.ok, refl), refl) c.in_ok-x.ensures.ok)));
      };
    }

pub returns-in_err-info-clause-bad : goal.returns-in_err-info-clause-bad
returns-in_err-info-clause-bad c = handed_on _ _ _ c.from_residual.ensures.0 c.from_residual.ensures.1
    ((info_refused (record { info = Below 32; parts = parts_at 33 }) c.args.bytes.now c.args.at
    c.in_err-info.field-0.0 c.in_err-info.ensures.bad))

pub returns-in_err-attribute-clause-bad : goal.returns-in_err-attribute-clause-bad
returns-in_err-attribute-clause-bad c =
    handed_on _ _ _ c.from_residual-in_err-attribute.ensures.0 c.from_residual-in_err-attribute.ensures.1
    ((fields_refused
    (record { info = Below 32; parts = parts_at 33 }) c.args.bytes.now c.args.at c.in_ok-info.info
    c.in_err-attribute.field-0.0 c.in_ok-info.ensures.there c.in_ok-info.ensures.ok c.in_ok-info.ensures.allowed
    (fails_first (when Always Number ∷ [])
    (pair ++ ((when Always Text ∷ []) ++ place)) c.in_ok-info.info c.args.bytes.now
    (c.args.at + 1) c.in_err-attribute.field-0.0 (inl (c.in_err-attribute.ensures.bad)))))

pub returns-in_err-layer-clause-bad : goal.returns-in_err-layer-clause-bad
returns-in_err-layer-clause-bad c =
    handed_on _ _ _ c.from_residual-in_err-layer.ensures.0 c.from_residual-in_err-layer.ensures.1
    ((fields_refused
    (record { info = Below 32; parts = parts_at 33 }) c.args.bytes.now c.args.at c.in_ok-info.info
    c.in_err-layer.field-0.0 c.in_ok-info.ensures.there c.in_ok-info.ensures.ok c.in_ok-info.ensures.allowed
    (fails_then (when Always Number ∷ [])
    (pair ++ ((when Always Text ∷ []) ++ place)) c.in_ok-info.info c.in_ok-info.info c.args.bytes.now (c.args.at + 1)
    (IsNumber c.in_ok-attribute.attribute ∷ []) c.in_ok-attribute.second c.in_err-layer.field-0.0 refl
    (c.in_ok-attribute.second, (c.in_ok-attribute.attribute, c.in_ok-attribute.ensures.ok, refl), refl)
    (fails_first pair ((when Always Text ∷ []) ++ place) c.in_ok-info.info c.args.bytes.now c.in_ok-attribute.second
    c.in_err-layer.field-0.0 (c.in_err-layer.ensures.bad)))))

pub returns-in_err-text-clause-bad : goal.returns-in_err-text-clause-bad
returns-in_err-text-clause-bad c =
    handed_on _ _ _ c.from_residual-in_err-text.ensures.0 c.from_residual-in_err-text.ensures.1
    ((fields_refused
    (record { info = Below 32; parts = parts_at 33 }) c.args.bytes.now c.args.at c.in_ok-info.info
    c.in_err-text.field-0.0 c.in_ok-info.ensures.there c.in_ok-info.ensures.ok c.in_ok-info.ensures.allowed
    (fails_then (when Always Number ∷ [])
    (pair ++ ((when Always Text ∷ []) ++ place)) c.in_ok-info.info c.in_ok-info.info c.args.bytes.now (c.args.at + 1)
    (IsNumber c.in_ok-attribute.attribute ∷ []) c.in_ok-attribute.second c.in_err-text.field-0.0 refl
    (c.in_ok-attribute.second, (c.in_ok-attribute.attribute, c.in_ok-attribute.ensures.ok, refl), refl)
    (fails_then pair ((when Always Text ∷ []) ++ place) c.in_ok-info.info c.in_ok-info.info c.args.bytes.now
    c.in_ok-attribute.second
    (number_or c.in_ok-layer.layer ∷ number_or c.in_ok-layer.datatype ∷ []) c.in_ok-layer.third c.in_err-text.field-0.0
    refl c.in_ok-layer.ensures.ok
    (fails_first (when Always Text ∷ []) place c.in_ok-info.info c.args.bytes.now c.in_ok-layer.third
    c.in_err-text.field-0.0 (inl (c.in_err-text.ensures.bad)))))))

pub returns-in_err-x-clause-bad : goal.returns-in_err-x-clause-bad
returns-in_err-x-clause-bad c = handed_on _ _ _ c.from_residual-in_err-x.ensures.0 c.from_residual-in_err-x.ensures.1
    ((fields_refused
    (record { info = Below 32; parts = parts_at 33 }) c.args.bytes.now c.args.at c.in_ok-info.info c.in_err-x.field-0.0
    c.in_ok-info.ensures.there c.in_ok-info.ensures.ok c.in_ok-info.ensures.allowed
    (fails_then (when Always Number ∷ [])
    (pair ++ ((when Always Text ∷ []) ++ place)) c.in_ok-info.info c.in_ok-info.info c.args.bytes.now (c.args.at + 1)
    (IsNumber c.in_ok-attribute.attribute ∷ []) c.in_ok-attribute.second c.in_err-x.field-0.0 refl
    (c.in_ok-attribute.second, (c.in_ok-attribute.attribute, c.in_ok-attribute.ensures.ok, refl), refl)
    (fails_then pair ((when Always Text ∷ []) ++ place) c.in_ok-info.info c.in_ok-info.info c.args.bytes.now
    c.in_ok-attribute.second
    (number_or c.in_ok-layer.layer ∷ number_or c.in_ok-layer.datatype ∷ []) c.in_ok-layer.third c.in_err-x.field-0.0
    refl c.in_ok-layer.ensures.ok
    (fails_then (when Always Text ∷ []) place c.in_ok-info.info c.in_ok-info.info c.args.bytes.now c.in_ok-layer.third
    (IsSpan c.in_ok-text.text ∷ []) c.in_ok-text.text.1 c.in_err-x.field-0.0 refl
    (c.in_ok-text.text.1, (c.in_ok-text.text.0, c.in_ok-text.ensures.ok, refl), refl) (c.in_err-x.ensures.bad))))))
