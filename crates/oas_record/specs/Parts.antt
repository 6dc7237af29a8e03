-- What a reader of one row gives: the record of this id whose info byte and fields stand there, or what is wrong.
use Rattle.std.specs.Prelude.{ℕ, ◌<◌, ◌≡◌, ◌⊎◌, Bool, true, false, if◌then◌else◌, Option, Some, None, List, [], ◌∷◌, length, slice_index}
use Rattle.oas_record.specs.Faults.{NoBytes}
use Rattle.oas_record.specs.Records.{id_of, info_of, fields_of, row_at, HasRecordRow, NoRow}
use Rattle.oas_record.specs.Rows.{Info, allows, Part, RecordRow, OneReal, Bit, when}
use Rattle.oas_record.specs.declared.faults.RecordBad.{RecordBad}
use Rattle.oas_record.specs.declared.faults.RecordBad.TheVariants as faults
use Rattle.oas_record.specs.declared.records.OasRecord.{OasRecord}

abbrev parts_in : Option RecordRow → List Part
parts_in (Some row) = row.parts
parts_in None = []

-- the fields of the row of an id
abbrev pub parts_at : ℕ → List Part
parts_at id = parts_in (row_at id)

-- the record is of this id, and what follows its id stands from `at` up to before `next`
pub record IsOf (id : ℕ) (tables : Bool) (bytes : List ℕ) (at : ℕ) (r : OasRecord) (next : ℕ) : Type 0 where
  pub id_is : id_of r ≡ id
  pub row : HasRecordRow (row_at id) tables bytes at (info_of r) (fields_of r) next

-- what follows this id doesn't stand at `at`, for this cause
abbrev pub NotOf : ℕ → Bool → List ℕ → ℕ → RecordBad → Type 0
NotOf id tables bytes at bad = NoRow (row_at id) id tables bytes at bad

-- no info byte that is allowed stands at `at`, for this cause
abbrev pub NoInfoByte : Info → List ℕ → ℕ → RecordBad → Type 0
NoInfoByte info bytes at bad =
    NoBytes bytes at 1 bad ⊎ ((at < length bytes) × (allows info (slice_index bytes at) ≡ false) × (bad ≡ faults.Shape))

-- the id of a LAYERNAME, for texts or not
abbrev pub layer_name_id : Bool → ℕ
layer_name_id of_texts = if of_texts then 12 else 11

-- the id of a PLACEMENT, with a magnification and an angle or without
abbrev pub turned_id : Bool → ℕ
turned_id false = 17
turned_id true = 18

abbrev pub turn_parts : Bool → List Part
turn_parts false = []
turn_parts true = when (Bit 2) OneReal ∷ when (Bit 1) OneReal ∷ []
