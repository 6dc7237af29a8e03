-- A RECTANGLE without a repetition: it has no lists.
use Rattle.std.proofs.Common.{None, List, ◌∷◌, refl}
use Rattle.oas_record.specs.Plain.{rectangle_of}
use Rattle.oas_record.specs.declared.plain.PlainRectangle.{PlainRectangle}
use Rattle.oas_record.specs.declared.records.OasRecord.{OasRecord}
use Rattle.oas_record.specs.declared.taking.Lists.{Lists}
use Rattle.oas_fields.specs.Steps.{AreWritten, AreKept}
use Rattle.oas_fields.specs.Values.{AreFields}
use Rattle.oas_fields.specs.Writes.{writes_of}
use Rattle.oas_fields.specs.declared.fields.Fields.{Fields}
use Rattle.oas_fields.proofs.TakeLemmas.{AreListsOf, taken_on}

abbrev no_lists : Lists
no_lists = record { polygon_points = None; path_points = None; repetition = None }

none_of : (p : PlainRectangle) → AreListsOf (rectangle_of p) no_lists
none_of p = record { polygon_points = refl; path_points = refl; repetition = refl }

none_kept : (fields : Fields) → AreKept no_lists fields fields
none_kept fields = record {
  mode = refl;
  layer = refl;
  datatype = refl;
  width = refl;
  height = refl;
  half_width = refl;
  start = refl;
  end = refl;
  kind = refl;
  cell = refl;
  placement = refl;
  geometry = refl;
  text = refl;
  polygon_points = refl;
  path_points = refl;
  repetition = refl;
}

pub rectangle_taken : (p : PlainRectangle) (past : List OasRecord) (old new : Fields) → AreFields past old
    → AreWritten (writes_of (rectangle_of p)) old new → AreFields (rectangle_of p ∷ past) new
rectangle_taken p past old new before written =
    taken_on (rectangle_of p) past no_lists old new new refl before written (none_of p) (none_kept new)
