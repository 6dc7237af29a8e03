use Rattle.std.proofs.Common.{inl, inr}
use Rattle.oas_record.specs.Parts.{turn_parts}
use Rattle.oas_record.specs.Records.{called_or, turn_fields}
use Rattle.oas_record.specs.Rows.{placed}
use Rattle.oas_record.proofs.Joins.{fails_first, fails_then}
use Rattle.oas_record.proofs.PlacementLemmas.{placement_there, info_missing, fields_missing}
use Rattle.oas_record.proofs.Refusals.{handed_on}
use Rattle.oas_record.proofs.placement_rows.placement.Goals as goal

pub returns-clause-ok : goal.returns-clause-ok
returns-clause-ok c = placement_there c.args.is_turned c.args.bytes.now c.args.at c.in_ok-info.info c.in_ok-cell.cell c.in_ok-turn.turn
    c.in_ok-x.x c.in_ok-x.y c.in_ok-x.repetition c.in_ok-cell.second c.in_ok-turn.third c.in_ok-x.next c.in_ok-info.ensures.there
    c.in_ok-info.ensures.ok c.in_ok-info.ensures.allowed c.in_ok-cell.ensures.ok c.in_ok-turn.ensures.id c.in_ok-turn.ensures.keeps
    c.in_ok-turn.ensures.ok c.in_ok-x.ensures.ok

pub returns-in_err-info-clause-bad : goal.returns-in_err-info-clause-bad
returns-in_err-info-clause-bad c = handed_on _ _ _ c.from_residual.ensures.0 c.from_residual.ensures.1
    (info_missing c.args.is_turned c.args.bytes.now c.args.at c.in_err-info.field-0.0 c.in_err-info.ensures.bad)

pub returns-in_err-cell-clause-bad : goal.returns-in_err-cell-clause-bad
returns-in_err-cell-clause-bad c = handed_on _ _ _ c.from_residual-in_err-cell.ensures.0 c.from_residual-in_err-cell.ensures.1
    (fields_missing c.args.is_turned c.args.bytes.now c.args.at c.in_ok-info.info c.in_err-cell.field-0.0
    c.in_ok-info.ensures.there c.in_ok-info.ensures.ok c.in_ok-info.ensures.allowed (inl c.in_err-cell.ensures.bad))

pub returns-in_err-turn-clause-bad : goal.returns-in_err-turn-clause-bad
returns-in_err-turn-clause-bad c = handed_on _ _ _ c.from_residual-in_err-turn.ensures.0 c.from_residual-in_err-turn.ensures.1
    (fields_missing c.args.is_turned c.args.bytes.now c.args.at c.in_ok-info.info c.in_err-turn.field-0.0
    c.in_ok-info.ensures.there c.in_ok-info.ensures.ok c.in_ok-info.ensures.allowed (inr (
      called_or c.in_ok-cell.cell,
      c.in_ok-cell.second,
      c.in_ok-cell.ensures.ok,
      fails_first (turn_parts c.args.is_turned) placed c.in_ok-info.info c.args.bytes.now c.in_ok-cell.second c.in_err-turn.field-0.0
          c.in_err-turn.ensures.bad,
    )))

pub returns-in_err-x-clause-bad : goal.returns-in_err-x-clause-bad
returns-in_err-x-clause-bad c = handed_on _ _ _ c.from_residual-in_err-x.ensures.0 c.from_residual-in_err-x.ensures.1
    (fields_missing c.args.is_turned c.args.bytes.now c.args.at c.in_ok-info.info c.in_err-x.field-0.0
    c.in_ok-info.ensures.there c.in_ok-info.ensures.ok c.in_ok-info.ensures.allowed (inr (
      called_or c.in_ok-cell.cell,
      c.in_ok-cell.second,
      c.in_ok-cell.ensures.ok,
      fails_then (turn_parts c.args.is_turned) placed c.in_ok-info.info c.in_ok-info.info c.args.bytes.now c.in_ok-cell.second
          (turn_fields c.in_ok-turn.turn) c.in_ok-turn.third c.in_err-x.field-0.0 c.in_ok-turn.ensures.keeps c.in_ok-turn.ensures.ok c.in_err-x.ensures.bad,
    )))
