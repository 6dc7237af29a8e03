-- What a record needs, by what the program keeps of it.
use Rattle.std.specs.Prelude.{◌≡◌, ◌≤◌, ℕ, Bool, true, false, if◌then◌else◌, List, [], ◌∷◌, Option, Some, None}
use Rattle.oas_record.specs.declared.records.OasRecord.{OasRecord}
use Rattle.oas_fields.specs.Values.{or_else, is_relative, layer_of, datatype_of, width_of, height_of, polygon_points_of}
use Rattle.oas_fields.specs.Values.{half_width_of, start_of, end_of, path_points_of, kind_of, cell_of, repetition_of}
use Rattle.oas_fields.specs.Values.{placement_of, geometry_of, text_of}
use Rattle.oas_fields.specs.declared.fields.Fields.{Fields}
use Rattle.oas_fields.specs.declared.variables.Variable.{Variable}
use Rattle.oas_fields.specs.declared.variables.Variable.TheVariants.{Layer, Datatype, GeometryW, GeometryH}
use Rattle.oas_fields.specs.declared.variables.Variable.TheVariants.{PolygonPoints, PathHalfWidth, PathStart, PathEnd}
use Rattle.oas_fields.specs.declared.variables.Variable.TheVariants.{PathPoints, CtrapezoidType, PlacementCell}
use Rattle.oas_fields.specs.declared.variables.Variable.TheVariants.{Repetition}
use Rattle.oas_reader.specs.Items.{text_in}
use Rattle.oas_reader.specs.Rules.{version}
use Rattle.oas_reader.specs.Undefined.{is_there, dimensions}
use Rattle.oas_reader.specs.declared.bodies.Body.{Body}
use Rattle.oas_reader.specs.declared.bodies.Body.TheVariants as bodies

-- ---- values that are needed

abbrev pub is_defined_in : Fields → Variable → Bool
is_defined_in fields Layer = is_there fields.layer
is_defined_in fields Datatype = is_there fields.datatype
is_defined_in fields GeometryW = is_there fields.width
is_defined_in fields GeometryH = is_there fields.height
is_defined_in fields PolygonPoints = is_there fields.polygon_points
is_defined_in fields PathHalfWidth = is_there fields.half_width
is_defined_in fields PathStart = is_there fields.start
is_defined_in fields PathEnd = is_there fields.end
is_defined_in fields PathPoints = is_there fields.path_points
is_defined_in fields CtrapezoidType = is_there fields.kind
is_defined_in fields PlacementCell = is_there fields.cell
is_defined_in fields Repetition = is_there fields.repetition

abbrev pub first_in : Fields → List Variable → Option Variable
first_in fields [] = None
first_in fields (variable ∷ variables) = if is_defined_in fields variable then first_in fields variables else Some variable

-- what a body needs after its pair
abbrev pub form_needs : Body → Option ℕ → List Variable
form_needs bodies.Rectangle kind = GeometryW ∷ GeometryH ∷ []
form_needs (bodies.Trapezoid is_upright a b) kind = GeometryW ∷ GeometryH ∷ []
form_needs bodies.Ctrapezoid kind = CtrapezoidType ∷ dimensions kind
form_needs bodies.Polygon kind = PolygonPoints ∷ []
form_needs bodies.Path kind = PathHalfWidth ∷ PathStart ∷ PathEnd ∷ PathPoints ∷ []
form_needs (bodies.Placement called flips turning) kind = PlacementCell ∷ []
form_needs _ kind = []

abbrev pub has_a_pair : Body → Bool
has_a_pair bodies.Rectangle = true
has_a_pair (bodies.Trapezoid is_upright a b) = true
has_a_pair bodies.Ctrapezoid = true
has_a_pair bodies.Polygon = true
has_a_pair bodies.Path = true
has_a_pair bodies.Undrawn = true
has_a_pair _ = false

abbrev pub pair_needs : Bool → List Variable
pair_needs true = Layer ∷ Datatype ∷ []
pair_needs false = []

abbrev pub repetition_needs : Bool → List Variable
repetition_needs true = Repetition ∷ []
repetition_needs false = []

-- the first variable without a value of a record with this body that writes a repetition or doesn't
abbrev pub undefined_in : Body → Bool → Fields → Option Variable
undefined_in body repeats fields =
    or_else (first_in fields (pair_needs (has_a_pair body)))
    (or_else (first_in fields (form_needs body fields.kind)) (first_in fields (repetition_needs repeats)))

-- ---- START and END

abbrev pub KeepsVersionBy : List ℕ → Body → Type 0
KeepsVersionBy bytes (bodies.Start span unit offset_flag) = (text_in bytes span ≡ version) × (offset_flag ≤ 1)
KeepsVersionBy bytes _ = Unit {0}

abbrev pub KeepsSchemeBy : Body → Type 0
KeepsSchemeBy (bodies.End scheme) = scheme ≤ 2
KeepsSchemeBy _ = Unit {0}

-- the string of a START lies within so many bytes
abbrev pub HasVersion : ℕ → Body → Type 0
HasVersion size (bodies.Start span unit offset_flag) = (span.0 ≤ span.1) × (span.1 ≤ size)
HasVersion size _ = Unit {0}

-- ---- the fields after some records

abbrev pub fields_at : List OasRecord → Fields
fields_at past = record {
  is_relative = is_relative past;
  layer = layer_of past;
  datatype = datatype_of past;
  width = width_of past;
  height = height_of past;
  polygon_points = polygon_points_of past;
  half_width = half_width_of past;
  start = start_of past;
  end = end_of past;
  path_points = path_points_of past;
  kind = kind_of past;
  cell = cell_of past;
  repetition = repetition_of past;
  placement = placement_of past;
  geometry = geometry_of past;
  text = text_of past;
}
