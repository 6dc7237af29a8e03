-- What each record writes of the modal variables (SEMI P39 1.0, section 7).
--
-- A variable is shared by all records that have its field: layer and datatype by all shapes and XGEOMETRY, width and
-- height by RECTANGLE, TRAPEZOID and CTRAPEZOID, the repetition by all that can be repeated. Which records share one, and
-- what a record stores in it, is this program's choice. The string, the layer and the type of a TEXT and the radius of a
-- CIRCLE are looked at nowhere.
use Rattle.std.specs.Prelude.{ℕ, ◌/◌, ◌%◌, ℤ, Bool, true, false, Option, Some, None, nat_le, nat_eq, if◌then◌else◌}
use Rattle.oas_record.specs.declared.records.OasRecord.{OasRecord}
use Rattle.oas_record.specs.declared.records.OasRecord.TheVariants as records
use Rattle.oas_record.specs.declared.repetition.Rep.{Rep}
use Rattle.oas_record.specs.declared.repetition.Rep.TheVariants as reps
use Rattle.oas_record.specs.declared.shapes.ShapeHead.{ShapeHead}
use Rattle.oas_record.specs.declared.shapes.ShapeKind.{ShapeKind}
use Rattle.oas_record.specs.declared.shapes.ShapeKind.TheVariants as shapes
use Rattle.oas_record.specs.Taken.{repetition_in}
use Rattle.oas_fields.specs.declared.extension.Extension.{Extension}
use Rattle.oas_fields.specs.declared.extension.Extension.TheVariants as ends
use Rattle.oas_fields.specs.declared.places.Step.{Step}
use Rattle.oas_fields.specs.declared.written.Written.{Written}

-- ---- parts of fields

-- a written length is an end's
abbrev pub length_by : Option ℤ → Option Extension
length_by None = None
length_by (Some length) = Some (ends.Length length)

-- what two bits of the extension byte write: 0 nothing, 1 flush, 2 the half width, 3 the length that is written
abbrev pub extension_by : ℕ → Option ℤ → Option Extension
extension_by scheme length =
    if nat_eq scheme 1 then Some ends.Flush
    else if nat_eq scheme 2 then Some ends.HalfWidth
    else if nat_eq scheme 3 then length_by length
    else None

-- bits 2 and 3 of the extension byte are of the start
abbrev pub start_by : Option ℕ → Option ℤ → Option Extension
start_by None length = None
start_by (Some byte) length = extension_by (byte / 4 % 4) length

-- bits 0 and 1 are of the end
abbrev pub end_by : Option ℕ → Option ℤ → Option Extension
end_by None length = None
end_by (Some byte) length = extension_by (byte % 4) length

abbrev pub step : Option ℤ → Option ℤ → Step
step x y = record { x = x; y = y }

-- the bit S of a RECTANGLE, bit 7
abbrev pub is_square : ℕ → Bool
is_square info = nat_le 128 info

-- ---- the table

abbrev pub nothing : Written
nothing = record {
  begins_cell = false;
  is_relative = None;
  layer = None;
  datatype = None;
  width = None;
  height = None;
  is_square = false;
  half_width = None;
  start = None;
  end = None;
  kind = None;
  cell = None;
  placement = step None None;
  geometry = step None None;
  text = step None None;
}

-- what all shapes write
abbrev pub shape : ShapeHead → Written
shape head = record nothing {
  layer = head.layer;
  datatype = head.datatype;
  geometry = step head.x head.y;
}

-- a shape with a width and a height
abbrev pub box : ShapeHead → Option ℕ → Option ℕ → Written
box head width height = record (shape head) { width = width; height = height }

-- a shape by its kind; POLYGON, CIRCLE and XGEOMETRY write nothing else
abbrev pub shape_writes : ShapeHead → ShapeKind → Written
shape_writes head (shapes.Rectangle width height) = record (box head width height) { is_square = is_square head.info }
shape_writes head (shapes.Path half_width extension start end points) = record (shape head) {
  half_width = half_width;
  start = start_by extension start;
  end = end_by extension end;
}
shape_writes head (shapes.Trapezoid width height deltas) = box head width height
shape_writes head (shapes.Ctrapezoid trapezoid_type width height) = record (box head width height) { kind = trapezoid_type }
shape_writes head _ = shape head

-- a record; one that isn't named writes nothing. Lists are below.
abbrev pub writes_of : OasRecord → Written
writes_of (records.Cell name) = record nothing { begins_cell = true }
writes_of (records.Mode is_relative) = record nothing { is_relative = Some is_relative }
writes_of (records.Placement info cell turn x y repetition) = record nothing { cell = cell; placement = step x y }
writes_of (records.Text info text textlayer texttype x y repetition) = record nothing { text = step x y }
writes_of (records.Shape head kind) = shape_writes head kind
writes_of _ = nothing

-- kind 0, the last repetition again, writes none
abbrev pub repetition_by : Option Rep → Option Rep
repetition_by (Some reps.Same) = None
repetition_by repetition = repetition

abbrev pub repetition_written : OasRecord → Option Rep
repetition_written r = repetition_by (repetition_in r)
