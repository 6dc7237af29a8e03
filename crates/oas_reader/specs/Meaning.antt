-- The layout that the records of a file give (SEMI P39 1.0, records).
--
-- Each CELL record gives a cell, with the shapes on wanted pairs and the placements up to the next CELL record. Lengths
-- of a layout are half units, those of a file whole grid steps.
use Rattle.std.specs.Prelude.{◌/◌, ◌%◌, ◌&&◌, ℕ, ℤ, pos, nat_eq, nat_le, Bool, true, false, not, if◌then◌else◌, List, [], ◌∷◌, ◌++◌, Option, Some, None, map}
use Rattle.std.specs.List.{list_any}
use Rattle.half_grid.specs.declared.plane.Point.{Point}
use Rattle.layout_model.specs.Pairs.{same_pair}
use Rattle.layout_model.specs.declared.orient.Orient.{Orient}
use Rattle.layout_model.specs.declared.shapes.Shape.{Shape}
use Rattle.layout_model.specs.declared.cells.Placement.{Placement}
use Rattle.layout_model.specs.declared.cells.Cell.{Cell}
use Rattle.layout_model.specs.declared.cells.Counts.{Counts}
use Rattle.layout_model.specs.declared.cells.Layout.{Layout}
use Rattle.layout_model.specs.declared.pair.Pair.{Pair}
use Rattle.oas_record.specs.Taken.{repetition_in}
use Rattle.oas_record.specs.declared.fields.Called.{Called}
use Rattle.oas_record.specs.declared.fields.Deltas.{Deltas}
use Rattle.oas_record.specs.declared.records.OasRecord.{OasRecord}
use Rattle.oas_record.specs.declared.records.OasRecord.TheVariants as records
use Rattle.oas_record.specs.declared.records.Turn.{Turn}
use Rattle.oas_record.specs.declared.repetition.Rep.{Rep}
use Rattle.oas_record.specs.declared.shapes.ShapeHead.{ShapeHead}
use Rattle.oas_record.specs.declared.shapes.ShapeKind.{ShapeKind}
use Rattle.oas_record.specs.declared.shapes.ShapeKind.TheVariants as shapes
use Rattle.oas_record.specs.declared.shapes.TrapezoidDeltas.{TrapezoidDeltas}
use Rattle.oas_record.specs.declared.shapes.TrapezoidDeltas.TheVariants as deltas
use Rattle.oas_shapes.specs.Outlines.{figure_outline, polygon_outline, path_shapes_of, outline_shape}
use Rattle.oas_shapes.specs.Plane.{doubled}
use Rattle.oas_shapes.specs.Repetitions.{offsets_in}
use Rattle.oas_shapes.specs.declared.figures.Brush.{Brush}
use Rattle.oas_shapes.specs.declared.figures.Figure.{Figure}
use Rattle.oas_shapes.specs.declared.figures.Figure.TheVariants as figures
use Rattle.oas_fields.specs.Values.{layer_of, datatype_of, width_of, height_of, polygon_points_of, half_width_of}
use Rattle.oas_fields.specs.Values.{start_of, end_of, path_points_of, kind_of, cell_of, repetition_of, geometry_of}
use Rattle.oas_fields.specs.Values.{placement_of, or_else, or_zero, begins_cell}
use Rattle.oas_fields.specs.declared.places.Place.{Place}
use Rattle.oas_reader.specs.Items.{given, count_in, is_end}
use Rattle.oas_reader.specs.Names.{cell_called, name_called}
use Rattle.oas_reader.specs.Reals.{factor_of, turns_of}

-- ---- values that are there: a record that needs one without a value is refused

abbrev pub or_none : Option ℕ → ℕ
or_none None = 0
or_none (Some n) = n

abbrev pub point_at : Place → Point
point_at place = record { x = place.x; y = place.y }

-- where the geometry of the last record stands, in grid steps
abbrev pub at_of : List OasRecord → Point
at_of all = point_at (geometry_of all)

-- the repetition of a record, if it has one: kind 0 is the last one
abbrev pub repetition_by : Option Rep → Option Rep → Option Rep
repetition_by None last = None
repetition_by (Some written) last = last

abbrev pub repetition_at : List OasRecord → OasRecord → Option Rep
repetition_at past r = repetition_by (repetition_in r) (repetition_of (r ∷ past))

-- ---- pairs

-- the last record's pair
abbrev pub pair_of : List OasRecord → Pair
pair_of all = record { layer = or_none (layer_of all); datatype = or_none (datatype_of all) }

-- it is among the wanted ones
abbrev pub is_wanted : List Pair → List OasRecord → Bool
is_wanted wanted all = list_any (same_pair (pair_of all)) wanted

-- ---- shapes

-- a delta that isn't written is 0
abbrev pub delta_a : TrapezoidDeltas → ℤ
delta_a (deltas.Both a b) = a
delta_a (deltas.A a) = a
delta_a (deltas.B b) = pos 0

abbrev pub delta_b : TrapezoidDeltas → ℤ
delta_b (deltas.Both a b) = b
delta_b (deltas.A a) = pos 0
delta_b (deltas.B b) = b

-- a TRAPEZOID whose parallel sides are upright, or aren't
abbrev pub trapezoid : Bool → ℕ → ℕ → ℤ → ℤ → Figure
trapezoid true width height a b = figures.Vertical width height a b
trapezoid false width height a b = figures.Horizontal width height a b

abbrev pub box_width : List OasRecord → ℕ
box_width all = or_none (width_of all)

abbrev pub box_height : List OasRecord → ℕ
box_height all = or_none (height_of all)

-- the rectangle or the trapezoid of a shape, the last record of the file; bit 7 of a TRAPEZOID is set where its sides are upright
abbrev pub figure_of : ShapeHead → ShapeKind → List OasRecord → Option Figure
figure_of head (shapes.Rectangle width height) all = Some (figures.Rectangle (box_width all) (box_height all))
figure_of head (shapes.Trapezoid width height deltas) all =
    Some (trapezoid (nat_le 128 head.info) (box_width all) (box_height all) (delta_a deltas) (delta_b deltas))
figure_of head (shapes.Ctrapezoid trapezoid_type width height) all =
    Some (figures.Ctrapezoid (or_none (kind_of all)) (box_width all) (box_height all))
figure_of head _ all = None

abbrev pub brush_of : List OasRecord → Brush
brush_of all = record {
  half_width = or_none (half_width_of all);
  start = or_zero (start_of all);
  end = or_zero (end_of all);
}

abbrev pub figure_shapes : Option Figure → Pair → Point → List Point → List Shape
figure_shapes None pair at offsets = []
figure_shapes (Some figure) pair at offsets = outline_shape pair (figure_outline at figure) offsets ∷ []

abbrev pub polygon_shapes : Option Deltas → Pair → Point → List Point → List Shape
polygon_shapes None pair at offsets = []
polygon_shapes (Some deltas) pair at offsets = outline_shape pair (polygon_outline at deltas) offsets ∷ []

abbrev pub path_shapes : Option Deltas → Pair → Point → Brush → List Point → List Shape
path_shapes None pair at brush offsets = []
path_shapes (Some deltas) pair at brush offsets = path_shapes_of pair at brush deltas offsets

abbrev pub kind_drawn : ShapeHead → ShapeKind → List OasRecord → List Point → List Shape
kind_drawn head (shapes.Polygon points) all offsets = polygon_shapes (polygon_points_of all) (pair_of all) (at_of all) offsets
kind_drawn head (shapes.Path half_width extension start end points) all offsets =
    path_shapes (path_points_of all) (pair_of all) (at_of all) (brush_of all) offsets
kind_drawn head kind all offsets = figure_shapes (figure_of head kind all) (pair_of all) (at_of all) offsets

-- the shapes of a record whose pair is wanted
abbrev pub shapes_drawn : OasRecord → List OasRecord → List Point → List Shape
shapes_drawn (records.Shape head kind) all offsets = kind_drawn head kind all offsets
shapes_drawn _ all offsets = []

abbrev pub shapes_at : List Pair → List OasRecord → OasRecord → List Shape
shapes_at wanted past r =
    if is_wanted wanted (r ∷ past) then shapes_drawn r (r ∷ past) (offsets_in (repetition_at past r)) else []

-- ---- placements

-- bit 0 of a PLACEMENT flips; bits 1 and 2 count quarter turns where it has no angle
abbrev pub orient_by : ℕ → Option Turn → Orient
orient_by info None = record { flip = nat_eq (info % 2) 1; turns = info / 2 % 4; mag = 1 }
orient_by info (Some turn) = record { flip = nat_eq (info % 2) 1; turns = turns_of turn.angle; mag = factor_of turn.magnification }

-- where a placement stands, in half units, and what it calls the placed cell
pub record Placing : Type 0 where
  pub target : Option Called
  pub orient : Orient
  pub at : Point
  pub offsets : List Point

abbrev pub placing : Orient → List OasRecord → OasRecord → List Placing
placing orient past r = record {
  target = cell_of (r ∷ past);
  orient = orient;
  at = doubled (point_at (placement_of (r ∷ past)));
  offsets = offsets_in (repetition_at past r);
} ∷ []

abbrev pub placings_at : List OasRecord → OasRecord → List Placing
placings_at past (records.Placement info cell turn x y repetition) =
    placing (orient_by info turn) past (records.Placement info cell turn x y repetition)
placings_at past _ = []

-- a name that is there
abbrev pub name_or : Option (List ℕ) → List ℕ
name_or None = []
name_or (Some name) = name

abbrev pub called_name : List ℕ → List OasRecord → Option Called → List ℕ
called_name bytes all None = []
called_name bytes all (Some called) = name_or (name_called bytes all called)

-- the placement by name
abbrev pub placement_by : List ℕ → List OasRecord → Placing → Placement
placement_by bytes all p = record { target = called_name bytes all p.target; orient = p.orient; at = p.at; offsets = p.offsets }

abbrev pub named : List ℕ → List OasRecord → List Placing → List Placement
named bytes all placings = map (placement_by bytes all) placings

-- ---- cells

-- what the records since the last CELL give: those of the cell that the last record is in
abbrev pub given_in_cell : {A : Type 0} → (List OasRecord → OasRecord → List A) → List OasRecord → List A
given_in_cell f [] = []
given_in_cell f (r ∷ past) = if begins_cell r then [] else given_in_cell f past ++ f past r

-- what the last CELL record calls its cell
abbrev pub open_cell : List OasRecord → Option Called
open_cell [] = None
open_cell (r ∷ past) = or_else (cell_called r) (open_cell past)

abbrev pub cells_called : List ℕ → List OasRecord → List Pair → List OasRecord → Option Called → List Cell
cells_called bytes all wanted past None = []
cells_called bytes all wanted past (Some called) = record {
  name = name_or (name_called bytes all called);
  shapes = given_in_cell (shapes_at wanted) past;
  placements = named bytes all (given_in_cell placings_at past);
} ∷ []

abbrev pub ends_cell : OasRecord → Bool
ends_cell r = if begins_cell r then true else is_end r

-- a cell is whole at the next CELL record, the last one at END
abbrev pub cells_at : List ℕ → List OasRecord → List Pair → List OasRecord → OasRecord → List Cell
cells_at bytes all wanted past r = if ends_cell r then cells_called bytes all wanted past (open_cell past) else []

-- ---- counts

-- RECTANGLE to CTRAPEZOID
abbrev pub is_drawn : OasRecord → Bool
is_drawn (records.Shape head (shapes.Circle radius)) = false
is_drawn (records.Shape head (shapes.XGeometry attribute text)) = false
is_drawn (records.Shape head kind) = true
is_drawn _ = false

-- those, CIRCLE and XGEOMETRY
abbrev pub has_pair : OasRecord → Bool
has_pair (records.Shape head kind) = true
has_pair _ = false

abbrev pub is_kept : List Pair → List OasRecord → OasRecord → Bool
is_kept wanted past r = is_drawn r && is_wanted wanted (r ∷ past)

abbrev pub is_other : List Pair → List OasRecord → OasRecord → Bool
is_other wanted past r = has_pair r && not (is_wanted wanted (r ∷ past))

abbrev pub is_text : OasRecord → Bool
is_text (records.Text info text textlayer texttype x y repetition) = true
is_text _ = false

abbrev pub is_property : OasRecord → Bool
is_property (records.Property info name count values) = true
is_property records.LastProperty = true
is_property _ = false

abbrev pub counts_of : List Pair → List OasRecord → Counts
counts_of wanted all = record {
  kept = count_in (is_kept wanted) all;
  other = count_in (is_other wanted) all;
  texts = count_in (λ _ r. is_text r) all;
  nodes = 0;
  boxes = 0;
  properties = count_in (λ _ r. is_property r) all;
}

-- ---- the layout of all records of a file

abbrev pub layout_of : List ℕ → List Pair → List OasRecord → Layout
layout_of bytes wanted all = record {
  cells = given (cells_at bytes all wanted) all;
  counts = counts_of wanted all;
}
