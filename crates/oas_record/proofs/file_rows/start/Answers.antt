use Rattle.std.proofs.Common.{refl, [], ◌∷◌, ◌++◌, inl}
use Rattle.oas_record.specs.Records.{span_or}
use Rattle.oas_record.specs.Rows.{Text, OneReal, Switch, Tables, IsNumber, IsSpan, IsReal, Always, Zero, when}
use Rattle.oas_record.proofs.Joins.{joined, fails_first, fails_then}
use Rattle.oas_record.proofs.Refusals.{handed_on}
use Rattle.oas_record.proofs.file_rows.start.Goals as goal

pub returns-clause-ok : goal.returns-clause-ok
returns-clause-ok c =
    record {
      id_is = refl;
      row = (
        refl,
        (joined (when Always Text ∷ [])
            ((when Always OneReal ∷ []) ++ ((when Always Switch ∷ []) ++ (when Zero Tables ∷ []))) 0 0 c.args.bytes.now
            c.args.at (IsSpan c.in_ok-version.version ∷ [])
            ((IsReal c.in_ok-unit.unit ∷ [])
            ++ ((IsNumber c.in_ok-offset_flag.offset_flag ∷ []) ++ (span_or c.in_ok-tables.tables ∷ [])))
            c.in_ok-version.version.1 c.in_ok-tables.next refl
            (c.in_ok-version.version.1, (c.in_ok-version.version.0, c.in_ok-version.ensures.ok, refl), refl)
            (joined (when Always OneReal ∷ [])
            ((when Always Switch ∷ []) ++ (when Zero Tables ∷ [])) 0 0 c.args.bytes.now c.in_ok-version.version.1
            (IsReal c.in_ok-unit.unit ∷ [])
            ((IsNumber c.in_ok-offset_flag.offset_flag ∷ []) ++ (span_or c.in_ok-tables.tables ∷ [])) c.in_ok-unit.third
            c.in_ok-tables.next refl (c.in_ok-unit.third, (c.in_ok-unit.unit, c.in_ok-unit.ensures.ok, refl), refl)
            (joined (when Always Switch ∷ [])
            (when Zero Tables ∷ []) 0 c.in_ok-offset_flag.offset_flag c.args.bytes.now c.in_ok-unit.third
            (IsNumber c.in_ok-offset_flag.offset_flag ∷ [])
            (span_or c.in_ok-tables.tables ∷ []) c.in_ok-offset_flag.fourth c.in_ok-tables.next refl
            (c.in_ok-offset_flag.fourth, (c.in_ok-offset_flag.offset_flag, c.in_ok-offset_flag.ensures.ok, refl), refl)
            (c.in_ok-tables.next, c.in_ok-tables.ensures.ok, refl)))),
      );
    }

pub returns-in_err-version-clause-bad : goal.returns-in_err-version-clause-bad
returns-in_err-version-clause-bad c = handed_on _ _ _ c.from_residual.ensures.0 c.from_residual.ensures.1
    ((fails_first (when Always Text ∷ [])
    ((when Always OneReal ∷ []) ++ ((when Always Switch ∷ []) ++ (when Zero Tables ∷ []))) 0 c.args.bytes.now c.args.at
    c.in_err-version.field-0.0 (inl (c.in_err-version.ensures.bad))))

pub returns-in_err-unit-clause-bad : goal.returns-in_err-unit-clause-bad
returns-in_err-unit-clause-bad c =
    handed_on _ _ _ c.from_residual-in_err-unit.ensures.0 c.from_residual-in_err-unit.ensures.1
    ((fails_then (when Always Text ∷ [])
    ((when Always OneReal ∷ []) ++ ((when Always Switch ∷ []) ++ (when Zero Tables ∷ []))) 0 0 c.args.bytes.now
    c.args.at (IsSpan c.in_ok-version.version ∷ []) c.in_ok-version.version.1 c.in_err-unit.field-0.0 refl
    (c.in_ok-version.version.1, (c.in_ok-version.version.0, c.in_ok-version.ensures.ok, refl), refl)
    (fails_first (when Always OneReal ∷ [])
    ((when Always Switch ∷ []) ++ (when Zero Tables ∷ [])) 0 c.args.bytes.now c.in_ok-version.version.1
    c.in_err-unit.field-0.0 (inl (c.in_err-unit.ensures.bad)))))

pub returns-in_err-offset_flag-clause-bad : goal.returns-in_err-offset_flag-clause-bad
returns-in_err-offset_flag-clause-bad c =
    handed_on _ _ _ c.from_residual-in_err-offset_flag.ensures.0 c.from_residual-in_err-offset_flag.ensures.1
    ((fails_then (when Always Text ∷ [])
    ((when Always OneReal ∷ []) ++ ((when Always Switch ∷ []) ++ (when Zero Tables ∷ []))) 0 0 c.args.bytes.now
    c.args.at (IsSpan c.in_ok-version.version ∷ []) c.in_ok-version.version.1 c.in_err-offset_flag.field-0.0 refl
    (c.in_ok-version.version.1, (c.in_ok-version.version.0, c.in_ok-version.ensures.ok, refl), refl)
    (fails_then (when Always OneReal ∷ [])
    ((when Always Switch ∷ []) ++ (when Zero Tables ∷ [])) 0 0 c.args.bytes.now c.in_ok-version.version.1
    (IsReal c.in_ok-unit.unit ∷ []) c.in_ok-unit.third c.in_err-offset_flag.field-0.0 refl
    (c.in_ok-unit.third, (c.in_ok-unit.unit, c.in_ok-unit.ensures.ok, refl), refl)
    (fails_first (when Always Switch ∷ [])
    (when Zero Tables ∷ []) 0 c.args.bytes.now c.in_ok-unit.third c.in_err-offset_flag.field-0.0
    (inl (c.in_err-offset_flag.ensures.bad))))))

pub returns-in_err-tables-clause-bad : goal.returns-in_err-tables-clause-bad
returns-in_err-tables-clause-bad c =
    handed_on _ _ _ c.from_residual-in_err-tables.ensures.0 c.from_residual-in_err-tables.ensures.1
    ((fails_then (when Always Text ∷ [])
    ((when Always OneReal ∷ []) ++ ((when Always Switch ∷ []) ++ (when Zero Tables ∷ []))) 0 0 c.args.bytes.now
    c.args.at (IsSpan c.in_ok-version.version ∷ []) c.in_ok-version.version.1 c.in_err-tables.field-0.0 refl
    (c.in_ok-version.version.1, (c.in_ok-version.version.0, c.in_ok-version.ensures.ok, refl), refl)
    (fails_then (when Always OneReal ∷ [])
    ((when Always Switch ∷ []) ++ (when Zero Tables ∷ [])) 0 0 c.args.bytes.now c.in_ok-version.version.1
    (IsReal c.in_ok-unit.unit ∷ []) c.in_ok-unit.third c.in_err-tables.field-0.0 refl
    (c.in_ok-unit.third, (c.in_ok-unit.unit, c.in_ok-unit.ensures.ok, refl), refl)
    (fails_then (when Always Switch ∷ [])
    (when Zero Tables ∷ []) 0 c.in_ok-offset_flag.offset_flag c.args.bytes.now c.in_ok-unit.third
    (IsNumber c.in_ok-offset_flag.offset_flag ∷ []) c.in_ok-offset_flag.fourth c.in_err-tables.field-0.0 refl
    (c.in_ok-offset_flag.fourth, (c.in_ok-offset_flag.offset_flag, c.in_ok-offset_flag.ensures.ok, refl), refl)
    (inl (c.in_err-tables.ensures.bad))))))
