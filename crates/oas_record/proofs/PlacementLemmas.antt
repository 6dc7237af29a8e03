-- The record of a placement, with a magnification and an angle or without.
use Rattle.std.proofs.Common.{◌≡◌, ◌⊎◌, ◌<◌, ◌+◌, ℕ, ℤ, Bool, true, false, IsTrue, Option, List, ◌∷◌, ◌++◌, length, slice_index}
use Rattle.oas_record.specs.Faults.{NoBytes}
use Rattle.oas_record.specs.Parts.{IsOf, NotOf, NoInfoByte, turned_id, turn_parts}
use Rattle.oas_record.specs.Records.{called_or, place_of, placement_id, turn_fields, row_at, HasInfo, HasRecordRow, InfoFails}
use Rattle.oas_record.specs.Rows.{Field, NameBy, Bit, Below, RecordRow, allows, when, placed, is_set, HasWhere, HasFields, NoFields}
use Rattle.oas_record.specs.Shapes.{through}
use Rattle.oas_record.specs.declared.faults.RecordBad.{RecordBad}
use Rattle.oas_record.specs.declared.fields.Called.{Called}
use Rattle.oas_record.specs.declared.records.OasRecord.TheVariants as records
use Rattle.oas_record.specs.declared.records.Turn.{Turn}
use Rattle.oas_record.specs.declared.repetition.Rep.{Rep}
use Rattle.oas_record.proofs.Joins.{joined, info_refused, fields_refused}

abbrev placement_row : Bool → RecordRow
placement_row is_turned = record { info = Below 256; parts = when (Bit 7) (NameBy 6) ∷ (turn_parts is_turned ++ placed) }

row_there : (is_turned : Bool) (bytes : List ℕ) (at info : ℕ) (fields : List Field) (next : ℕ)
    → HasInfo (placement_row is_turned) bytes at info fields next → HasRecordRow (row_at (turned_id is_turned)) false bytes at info fields next
row_there false bytes at info fields next h = h
row_there true bytes at info fields next h = h

row_missing : (is_turned : Bool) (bytes : List ℕ) (at : ℕ) (bad : RecordBad)
    → NoBytes bytes at 1 bad ⊎ InfoFails (placement_row is_turned) bytes at bad → NotOf (turned_id is_turned) false bytes at bad
row_missing false bytes at bad h = h
row_missing true bytes at bad h = h

pub placement_there : (is_turned : Bool) (bytes : List ℕ) (at info : ℕ) (cell : Option Called) (turn : Option Turn) (x y : Option ℤ)
    (repetition : Option Rep) (second third next : ℕ) → at < length bytes → info ≡ slice_index bytes at → IsTrue (allows (Below 256) info)
    → HasWhere (is_set 7 info) (NameBy 6) info bytes (at + 1) (called_or cell) second → placement_id turn ≡ turned_id is_turned
    → through (turn_parts is_turned) (turn_fields turn) info ≡ info → HasFields (turn_parts is_turned) info bytes second (turn_fields turn) third
    → HasFields placed info bytes third (place_of x y repetition) next
    → IsOf (turned_id is_turned) false bytes at (records.Placement info cell turn x y repetition) next
placement_there is_turned bytes at info cell turn x y repetition second third next within byte allowed named id keeps turns put =
    let tail = joined (turn_parts is_turned) placed info info bytes second (turn_fields turn) (place_of x y repetition) third next keeps turns put in
    record {
      id_is = id;
      row = row_there is_turned bytes at info (called_or cell ∷ (turn_fields turn ++ place_of x y repetition)) next
          (record { within = within; byte = byte; allowed = allowed; fields_stand = (second, named, tail) });
    }

pub info_missing : (is_turned : Bool) (bytes : List ℕ) (at : ℕ) (bad : RecordBad) → NoInfoByte (Below 256) bytes at bad
    → NotOf (turned_id is_turned) false bytes at bad
info_missing is_turned bytes at bad h = row_missing is_turned bytes at bad (info_refused (placement_row is_turned) bytes at bad h)

pub fields_missing : (is_turned : Bool) (bytes : List ℕ) (at info : ℕ) (bad : RecordBad) → at < length bytes
    → info ≡ slice_index bytes at → IsTrue (allows (Below 256) info)
    → NoFields (when (Bit 7) (NameBy 6) ∷ (turn_parts is_turned ++ placed)) info bytes (at + 1) bad → NotOf (turned_id is_turned) false bytes at bad
fields_missing is_turned bytes at info bad within byte allowed f =
    row_missing is_turned bytes at bad (fields_refused (placement_row is_turned) bytes at info bad within byte allowed f)
