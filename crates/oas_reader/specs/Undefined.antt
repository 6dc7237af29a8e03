-- Fields that have no value. A record needs the values of its fields in the order of its row, written or not.
use Rattle.std.specs.Prelude.{ℕ, Bool, true, false, if◌then◌else◌, List, [], ◌∷◌, ◌++◌, Option, Some, None}
use Rattle.oas_record.specs.declared.records.OasRecord.{OasRecord}
use Rattle.oas_record.specs.declared.records.OasRecord.TheVariants as records
use Rattle.oas_record.specs.declared.repetition.Rep.{Rep}
use Rattle.oas_record.specs.declared.shapes.ShapeKind.{ShapeKind}
use Rattle.oas_record.specs.declared.shapes.ShapeKind.TheVariants as shapes
use Rattle.oas_shapes.specs.Figures.{uses_width, uses_height}
use Rattle.oas_fields.specs.Values.{layer_of, datatype_of, width_of, height_of, polygon_points_of, half_width_of}
use Rattle.oas_fields.specs.Values.{start_of, end_of, path_points_of, kind_of, cell_of, repetition_of}
use Rattle.oas_fields.specs.declared.variables.Variable.{Variable}
use Rattle.oas_fields.specs.declared.variables.Variable.TheVariants.{Layer, Datatype, GeometryW, GeometryH}
use Rattle.oas_fields.specs.declared.variables.Variable.TheVariants.{PolygonPoints, PathHalfWidth, PathStart, PathEnd}
use Rattle.oas_fields.specs.declared.variables.Variable.TheVariants.{PathPoints, CtrapezoidType, PlacementCell}
use Rattle.oas_fields.specs.declared.variables.Variable.TheVariants.{Repetition}

abbrev pub is_there : {A : Type 0} → Option A → Bool
is_there None = false
is_there (Some a) = true

-- the variable has a value after these records
abbrev pub is_defined : List OasRecord → Variable → Bool
is_defined past Layer = is_there (layer_of past)
is_defined past Datatype = is_there (datatype_of past)
is_defined past GeometryW = is_there (width_of past)
is_defined past GeometryH = is_there (height_of past)
is_defined past PolygonPoints = is_there (polygon_points_of past)
is_defined past PathHalfWidth = is_there (half_width_of past)
is_defined past PathStart = is_there (start_of past)
is_defined past PathEnd = is_there (end_of past)
is_defined past PathPoints = is_there (path_points_of past)
is_defined past CtrapezoidType = is_there (kind_of past)
is_defined past PlacementCell = is_there (cell_of past)
is_defined past Repetition = is_there (repetition_of past)

-- a repetition that is written: kind 0 takes the last one
abbrev pub repeated : Option Rep → List Variable
repeated None = []
repeated (Some rep) = Repetition ∷ []

abbrev pub needed_if : Bool → Variable → List Variable
needed_if true variable = variable ∷ []
needed_if false variable = []

-- a CTRAPEZOID needs the dimensions of its type
abbrev pub dimensions : Option ℕ → List Variable
dimensions None = []
dimensions (Some kind) = needed_if (uses_width kind) GeometryW ++ needed_if (uses_height kind) GeometryH

-- what a shape needs after its pair, where a CTRAPEZOID has this type
abbrev pub shape_needs : ShapeKind → Option ℕ → List Variable
shape_needs (shapes.Rectangle width height) kind = GeometryW ∷ GeometryH ∷ []
shape_needs (shapes.Polygon points) kind = PolygonPoints ∷ []
shape_needs (shapes.Path half_width extension start end points) kind = PathHalfWidth ∷ PathStart ∷ PathEnd ∷ PathPoints ∷ []
shape_needs (shapes.Trapezoid width height deltas) kind = GeometryW ∷ GeometryH ∷ []
shape_needs (shapes.Ctrapezoid trapezoid_type width height) kind = CtrapezoidType ∷ dimensions kind
shape_needs _ kind = []

-- the variables whose values a record needs, after its past, in the order of its row
abbrev pub needs_of : List OasRecord → OasRecord → List Variable
needs_of past (records.Placement info cell turn x y repetition) = PlacementCell ∷ repeated repetition
needs_of past (records.Text info text textlayer texttype x y repetition) = repeated repetition
needs_of past (records.Shape head kind) =
    Layer ∷ Datatype ∷ (shape_needs kind (kind_of (records.Shape head kind ∷ past)) ++ repeated head.repetition)
needs_of past _ = []

-- the first of these that has no value after these records
abbrev pub first_undefined : List OasRecord → List Variable → Option Variable
first_undefined all [] = None
first_undefined all (variable ∷ variables) = if is_defined all variable then first_undefined all variables else Some variable

-- the variable that a record needs and that has no value; what a record writes itself counts
abbrev pub undefined_of : List OasRecord → OasRecord → Option Variable
undefined_of past r = first_undefined (r ∷ past) (needs_of past r)
