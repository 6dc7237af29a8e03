-- The lists of a record.
use Rattle.std.specs.Prelude.{Option, None}
use Rattle.oas_record.specs.declared.fields.Deltas.{Deltas}
use Rattle.oas_record.specs.declared.records.OasRecord.{OasRecord}
use Rattle.oas_record.specs.declared.records.OasRecord.TheVariants as records
use Rattle.oas_record.specs.declared.repetition.Rep.{Rep}
use Rattle.oas_record.specs.declared.shapes.ShapeKind.{ShapeKind}
use Rattle.oas_record.specs.declared.shapes.ShapeKind.TheVariants as shapes

abbrev pub polygon_points_of : ShapeKind → Option Deltas
polygon_points_of (shapes.Polygon points) = points
polygon_points_of _ = None

abbrev pub path_points_of : ShapeKind → Option Deltas
path_points_of (shapes.Path half_width extension start end points) = points
path_points_of _ = None

-- the point list of a POLYGON
abbrev pub polygon_points_in : OasRecord → Option Deltas
polygon_points_in (records.Shape head kind) = polygon_points_of kind
polygon_points_in _ = None

-- the point list of a PATH
abbrev pub path_points_in : OasRecord → Option Deltas
path_points_in (records.Shape head kind) = path_points_of kind
path_points_in _ = None

-- the repetition of a record that can be repeated
abbrev pub repetition_in : OasRecord → Option Rep
repetition_in (records.Placement info cell turn x y repetition) = repetition
repetition_in (records.Text info text textlayer texttype x y repetition) = repetition
repetition_in (records.Shape head kind) = head.repetition
repetition_in _ = None
