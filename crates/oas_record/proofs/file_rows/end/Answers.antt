use Rattle.std.proofs.Common.{refl, [], ◌∷◌, ◌++◌, inl}
use Rattle.oas_record.specs.Records.{span_or, switch_of}
use Rattle.oas_record.specs.Rows.{Text, Switch, Tables, FourBytes, IsNumber, IsSpan, Always, Bit, NotZero, when}
use Rattle.oas_record.proofs.Joins.{joined, fails_first, fails_then}
use Rattle.oas_record.proofs.Refusals.{handed_on}
use Rattle.oas_record.proofs.file_rows.end.Goals as goal

pub returns-clause-ok : goal.returns-clause-ok
returns-clause-ok c =
    record {
      id_is = refl;
      row = (
        refl,
        (joined (when (Bit 0) Tables ∷ [])
            ((when Always Text ∷ []) ++ ((when Always Switch ∷ []) ++ (when NotZero FourBytes ∷ [])))
            (switch_of c.args.tables) (switch_of c.args.tables) c.args.bytes.now c.args.at
            (span_or c.in_ok-tables.tables ∷ [])
            ((IsSpan c.in_ok-padding.padding ∷ [])
            ++ ((IsNumber c.in_ok-scheme.scheme ∷ []) ++ (span_or c.in_ok-validation.validation ∷ [])))
            c.in_ok-tables.second c.in_ok-validation.next refl (c.in_ok-tables.second, c.in_ok-tables.ensures.ok, refl)
            (joined (when Always Text ∷ []) ((when Always Switch ∷ []) ++ (when NotZero FourBytes ∷ []))
            (switch_of c.args.tables) (switch_of c.args.tables) c.args.bytes.now c.in_ok-tables.second
            (IsSpan c.in_ok-padding.padding ∷ [])
            ((IsNumber c.in_ok-scheme.scheme ∷ []) ++ (span_or c.in_ok-validation.validation ∷ []))
            c.in_ok-padding.padding.1 c.in_ok-validation.next refl
            (c.in_ok-padding.padding.1, (c.in_ok-padding.padding.0, c.in_ok-padding.ensures.ok, refl), refl)
            (joined (when Always Switch ∷ []) (when NotZero FourBytes ∷ [])
            (switch_of c.args.tables) c.in_ok-scheme.scheme c.args.bytes.now c.in_ok-padding.padding.1
            (IsNumber c.in_ok-scheme.scheme ∷ [])
            (span_or c.in_ok-validation.validation ∷ []) c.in_ok-scheme.fourth c.in_ok-validation.next refl
            (c.in_ok-scheme.fourth, (c.in_ok-scheme.scheme, c.in_ok-scheme.ensures.ok, refl), refl)
            (c.in_ok-validation.next, c.in_ok-validation.ensures.ok, refl)))),
      );
    }

pub returns-in_err-tables-clause-bad : goal.returns-in_err-tables-clause-bad
returns-in_err-tables-clause-bad c = handed_on _ _ _ c.from_residual.ensures.0 c.from_residual.ensures.1
    ((fails_first (when (Bit 0) Tables ∷ [])
    ((when Always Text ∷ []) ++ ((when Always Switch ∷ []) ++ (when NotZero FourBytes ∷ [])))
    (switch_of c.args.tables) c.args.bytes.now c.args.at c.in_err-tables.field-0.0 (inl (c.in_err-tables.ensures.bad))))

pub returns-in_err-padding-clause-bad : goal.returns-in_err-padding-clause-bad
returns-in_err-padding-clause-bad c =
    handed_on _ _ _ c.from_residual-in_err-padding.ensures.0 c.from_residual-in_err-padding.ensures.1
    ((fails_then (when (Bit 0) Tables ∷ [])
    ((when Always Text ∷ []) ++ ((when Always Switch ∷ []) ++ (when NotZero FourBytes ∷ []))) (switch_of c.args.tables)
    (switch_of c.args.tables) c.args.bytes.now c.args.at
    (span_or c.in_ok-tables.tables ∷ []) c.in_ok-tables.second c.in_err-padding.field-0.0 refl
    (c.in_ok-tables.second, c.in_ok-tables.ensures.ok, refl)
    (fails_first (when Always Text ∷ []) ((when Always Switch ∷ []) ++ (when NotZero FourBytes ∷ []))
    (switch_of c.args.tables) c.args.bytes.now c.in_ok-tables.second c.in_err-padding.field-0.0
    (inl (c.in_err-padding.ensures.bad)))))

pub returns-in_err-scheme-clause-bad : goal.returns-in_err-scheme-clause-bad
returns-in_err-scheme-clause-bad c =
    handed_on _ _ _ c.from_residual-in_err-scheme.ensures.0 c.from_residual-in_err-scheme.ensures.1
    ((fails_then (when (Bit 0) Tables ∷ [])
    ((when Always Text ∷ []) ++ ((when Always Switch ∷ []) ++ (when NotZero FourBytes ∷ []))) (switch_of c.args.tables)
    (switch_of c.args.tables) c.args.bytes.now c.args.at
    (span_or c.in_ok-tables.tables ∷ []) c.in_ok-tables.second c.in_err-scheme.field-0.0 refl
    (c.in_ok-tables.second, c.in_ok-tables.ensures.ok, refl)
    (fails_then (when Always Text ∷ []) ((when Always Switch ∷ []) ++ (when NotZero FourBytes ∷ []))
    (switch_of c.args.tables) (switch_of c.args.tables) c.args.bytes.now c.in_ok-tables.second
    (IsSpan c.in_ok-padding.padding ∷ []) c.in_ok-padding.padding.1 c.in_err-scheme.field-0.0 refl
    (c.in_ok-padding.padding.1, (c.in_ok-padding.padding.0, c.in_ok-padding.ensures.ok, refl), refl)
    (fails_first (when Always Switch ∷ []) (when NotZero FourBytes ∷ [])
    (switch_of c.args.tables) c.args.bytes.now c.in_ok-padding.padding.1 c.in_err-scheme.field-0.0
    (inl (c.in_err-scheme.ensures.bad))))))

pub returns-in_err-validation-clause-bad : goal.returns-in_err-validation-clause-bad
returns-in_err-validation-clause-bad c =
    handed_on _ _ _ c.from_residual-in_err-validation.ensures.0 c.from_residual-in_err-validation.ensures.1
    ((fails_then (when (Bit 0) Tables ∷ [])
    ((when Always Text ∷ []) ++ ((when Always Switch ∷ []) ++ (when NotZero FourBytes ∷ []))) (switch_of c.args.tables)
    (switch_of c.args.tables) c.args.bytes.now c.args.at
    (span_or c.in_ok-tables.tables ∷ []) c.in_ok-tables.second c.in_err-validation.field-0.0 refl
    (c.in_ok-tables.second, c.in_ok-tables.ensures.ok, refl)
    (fails_then (when Always Text ∷ []) ((when Always Switch ∷ []) ++ (when NotZero FourBytes ∷ []))
    (switch_of c.args.tables) (switch_of c.args.tables) c.args.bytes.now c.in_ok-tables.second
    (IsSpan c.in_ok-padding.padding ∷ []) c.in_ok-padding.padding.1 c.in_err-validation.field-0.0 refl
    (c.in_ok-padding.padding.1, (c.in_ok-padding.padding.0, c.in_ok-padding.ensures.ok, refl), refl)
    (fails_then (when Always Switch ∷ []) (when NotZero FourBytes ∷ [])
    (switch_of c.args.tables) c.in_ok-scheme.scheme c.args.bytes.now c.in_ok-padding.padding.1
    (IsNumber c.in_ok-scheme.scheme ∷ []) c.in_ok-scheme.fourth c.in_err-validation.field-0.0 refl
    (c.in_ok-scheme.fourth, (c.in_ok-scheme.scheme, c.in_ok-scheme.ensures.ok, refl), refl)
    (inl (c.in_err-validation.ensures.bad))))))
