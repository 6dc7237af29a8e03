-- What the program keeps of a record beside its modal fields, its point list and its repetition.
use Rattle.std.specs.Prelude.{ℕ, ◌/◌, ◌%◌, nat_eq, nat_le, Option, Some, None}
use Rattle.oas_record.specs.declared.records.NameKind.{NameKind}
use Rattle.oas_record.specs.declared.records.NameKind.TheVariants as kinds
use Rattle.oas_record.specs.declared.records.OasRecord.{OasRecord}
use Rattle.oas_record.specs.declared.records.OasRecord.TheVariants as records
use Rattle.oas_record.specs.declared.records.Turn.{Turn}
use Rattle.oas_record.specs.declared.shapes.ShapeKind.{ShapeKind}
use Rattle.oas_record.specs.declared.shapes.ShapeKind.TheVariants as shapes
use Rattle.oas_reader.specs.Meaning.{delta_a, delta_b}
use Rattle.oas_reader.specs.declared.bodies.Body.{Body}
use Rattle.oas_reader.specs.declared.bodies.Body.TheVariants as bodies
use Rattle.oas_reader.specs.declared.bodies.Turning.{Turning}
use Rattle.oas_reader.specs.declared.bodies.Turning.TheVariants as turnings

abbrev pub turning_by : ℕ → Option Turn → Turning
turning_by info None = turnings.Quarters (info / 2 % 4)
turning_by info (Some turn) = turnings.Reals turn.magnification turn.angle

abbrev pub shape_body : ℕ → ShapeKind → Body
shape_body info (shapes.Rectangle width height) = bodies.Rectangle
shape_body info (shapes.Polygon points) = bodies.Polygon
shape_body info (shapes.Path half_width extension start end points) = bodies.Path
shape_body info (shapes.Trapezoid width height deltas) = bodies.Trapezoid (nat_le 128 info) (delta_a deltas) (delta_b deltas)
shape_body info (shapes.Ctrapezoid trapezoid_type width height) = bodies.Ctrapezoid
shape_body info (shapes.Circle radius) = bodies.Undrawn
shape_body info (shapes.XGeometry attribute text) = bodies.Undrawn

abbrev pub name_body : NameKind → ℕ × ℕ → Option ℕ → Body
name_body kinds.Cell text number = bodies.CellName text number
name_body _ text number = bodies.Other

abbrev pub body_of : OasRecord → Body
body_of (records.Start version unit offset_flag tables) = bodies.Start version unit offset_flag
body_of (records.End tables padding scheme validation) = bodies.End scheme
body_of (records.Name kind text number) = name_body kind text number
body_of (records.Cell name) = bodies.Cell name
body_of (records.Placement info cell turn x y repetition) = bodies.Placement cell (nat_eq (info % 2) 1) (turning_by info turn)
body_of (records.Text info text textlayer texttype x y repetition) = bodies.Text
body_of (records.Shape head kind) = shape_body head.info kind
body_of (records.Property info name count values) = bodies.Property
body_of records.LastProperty = bodies.Property
body_of _ = bodies.Other
