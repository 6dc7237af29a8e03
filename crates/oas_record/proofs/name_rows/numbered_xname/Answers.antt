use Rattle.std.proofs.Common.{refl, [], ◌∷◌, ◌++◌, inl}
use Rattle.oas_record.specs.Rows.{Number, Text, IsNumber, IsSpan, Always, when}
use Rattle.oas_record.proofs.Joins.{joined, fails_first, fails_then}
use Rattle.oas_record.proofs.Refusals.{handed_on}
use Rattle.oas_record.proofs.name_rows.numbered_xname.Goals as goal

pub returns-clause-ok : goal.returns-clause-ok
returns-clause-ok c =
    record {
      id_is = refl;
      row = (
        refl,
        (joined (when Always Number ∷ [])
            ((when Always Text ∷ []) ++ (when Always Number ∷ [])) 0 0 c.args.bytes.now c.args.at
            (IsNumber c.in_ok-attribute.attribute ∷ [])
            ((IsSpan c.in_ok-text.text ∷ []) ++ (IsNumber c.in_ok-number.number ∷ [])) c.in_ok-attribute.second
            c.in_ok-number.next refl
            (c.in_ok-attribute.second, (c.in_ok-attribute.attribute, c.in_ok-attribute.ensures.ok, refl), refl)
            (joined (when Always Text ∷ []) (when Always Number ∷ []) 0 0 c.args.bytes.now c.in_ok-attribute.second
            (IsSpan c.in_ok-text.text ∷ [])
            (IsNumber c.in_ok-number.number ∷ []) c.in_ok-text.text.1 c.in_ok-number.next refl
            (c.in_ok-text.text.1, (c.in_ok-text.text.0, c.in_ok-text.ensures.ok, refl), refl)
            (c.in_ok-number.next, (c.in_ok-number.number, c.in_ok-number.ensures.ok, refl), refl))),
      );
    }

pub returns-in_err-attribute-clause-bad : goal.returns-in_err-attribute-clause-bad
returns-in_err-attribute-clause-bad c = handed_on _ _ _ c.from_residual.ensures.0 c.from_residual.ensures.1
    ((fails_first (when Always Number ∷ [])
    ((when Always Text ∷ []) ++ (when Always Number ∷ [])) 0 c.args.bytes.now c.args.at c.in_err-attribute.field-0.0
    (inl (c.in_err-attribute.ensures.bad))))

pub returns-in_err-text-clause-bad : goal.returns-in_err-text-clause-bad
returns-in_err-text-clause-bad c =
    handed_on _ _ _ c.from_residual-in_err-text.ensures.0 c.from_residual-in_err-text.ensures.1
    ((fails_then (when Always Number ∷ [])
    ((when Always Text ∷ []) ++ (when Always Number ∷ [])) 0 0 c.args.bytes.now c.args.at
    (IsNumber c.in_ok-attribute.attribute ∷ []) c.in_ok-attribute.second c.in_err-text.field-0.0 refl
    (c.in_ok-attribute.second, (c.in_ok-attribute.attribute, c.in_ok-attribute.ensures.ok, refl), refl)
    (fails_first (when Always Text ∷ [])
    (when Always Number ∷ []) 0 c.args.bytes.now c.in_ok-attribute.second c.in_err-text.field-0.0
    (inl (c.in_err-text.ensures.bad)))))

pub returns-in_err-number-clause-bad : goal.returns-in_err-number-clause-bad
returns-in_err-number-clause-bad c =
    handed_on _ _ _ c.from_residual-in_err-number.ensures.0 c.from_residual-in_err-number.ensures.1
    ((fails_then (when Always Number ∷ [])
    ((when Always Text ∷ []) ++ (when Always Number ∷ [])) 0 0 c.args.bytes.now c.args.at
    (IsNumber c.in_ok-attribute.attribute ∷ []) c.in_ok-attribute.second c.in_err-number.field-0.0 refl
    (c.in_ok-attribute.second, (c.in_ok-attribute.attribute, c.in_ok-attribute.ensures.ok, refl), refl)
    (fails_then (when Always Text ∷ []) (when Always Number ∷ []) 0 0 c.args.bytes.now c.in_ok-attribute.second
    (IsSpan c.in_ok-text.text ∷ []) c.in_ok-text.text.1 c.in_err-number.field-0.0 refl
    (c.in_ok-text.text.1, (c.in_ok-text.text.0, c.in_ok-text.ensures.ok, refl), refl)
    (inl (c.in_err-number.ensures.bad)))))
