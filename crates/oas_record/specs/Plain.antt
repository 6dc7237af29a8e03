-- A RECTANGLE that writes no repetition, as a record, and what it begins with.
use Rattle.std.specs.Prelude.{ℕ, ◌+◌, ◌<◌, ◌≡◌, false, None, List, length, slice_index}
use Rattle.oas_record.specs.Rows.{is_set}
use Rattle.oas_record.specs.declared.plain.PlainRectangle.{PlainRectangle}
use Rattle.oas_record.specs.declared.records.OasRecord.{OasRecord}
use Rattle.oas_record.specs.declared.records.OasRecord.TheVariants as records
use Rattle.oas_record.specs.declared.shapes.ShapeKind.TheVariants as shapes

abbrev pub rectangle_of : PlainRectangle → OasRecord
rectangle_of p = records.Shape
    (record { info = p.info; layer = p.layer; datatype = p.datatype; x = p.x; y = p.y; repetition = None })
    (shapes.Rectangle p.width p.height)

-- the id of a RECTANGLE stands at `at`, and after it an info byte in which the bit of the repetition, 2, is clear
pub record BeginsPlainly (bytes : List ℕ) (at : ℕ) : Type 0 where
  pub within : at + 1 < length bytes
  pub id : slice_index bytes at ≡ 20
  pub plain : is_set 2 (slice_index bytes (at + 1)) ≡ false
