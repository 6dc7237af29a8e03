-- Shapes by what the program keeps are those of the records.
use Rattle.std.proofs.Common.{◌≡◌, Option, List, refl, sym}
use Rattle.oas_record.specs.declared.records.NameKind.TheVariants as kinds
use Rattle.oas_record.specs.declared.records.OasRecord.{OasRecord}
use Rattle.oas_record.specs.declared.records.OasRecord.TheVariants as records
use Rattle.oas_record.specs.declared.repetition.Rep.{Rep}
use Rattle.oas_record.specs.declared.shapes.ShapeKind.TheVariants as shapes
use Rattle.oas_shapes.specs.Repetitions.{offsets_in}
use Rattle.oas_fields.specs.Values.{AreFields}
use Rattle.oas_fields.specs.declared.fields.Fields.{Fields}
use Rattle.oas_reader.specs.Bodies.{body_of}
use Rattle.oas_reader.specs.Drawn.{shapes_in}
use Rattle.oas_reader.specs.Kept.{fields_at}
use Rattle.oas_reader.specs.Meaning.{shapes_drawn}

pub fields_are : (past : List OasRecord) (fields : Fields) → AreFields past fields → fields ≡ fields_at past
fields_are past fields a =
    rw (
      sym a.mode,
      sym a.layer,
      sym a.datatype,
      sym a.width,
      sym a.height,
      sym a.polygon_points,
      sym a.half_width,
      sym a.start,
      sym a.end,
      sym a.path_points,
      sym a.kind,
      sym a.cell,
      sym a.repetition,
      sym a.placement,
      sym a.geometry,
      sym a.text,
    )
    refl

-- the shapes of a record whose pair is wanted
pub shapes_are : (r : OasRecord) (all : List OasRecord) (rep : Option Rep)
    → shapes_in (body_of r) (fields_at all) rep ≡ shapes_drawn r all (offsets_in rep)
shapes_are (records.Name kinds.Cell text number) all rep = refl
shapes_are (records.Shape head (shapes.Circle radius)) all rep = refl
shapes_are r all rep = refl
