-- The layout that the records of a file give (GDSII Stream Format Manual 6.0, record description).
--
-- Each structure gives a cell. The XY record of a BOUNDARY or a PATH on a wanted pair gives its shapes, that of an SREF
-- or an AREF its placement, each by the records of its own element.
use Rattle.std.specs.Prelude.{◌+◌, ◌/◌, ℕ, ℤ, pos, negsuc, ◌-ℤ◌, nat_le, Bool, true, false, not, if◌then◌else◌, List, [], ◌∷◌, Option, Some, None}
use Rattle.std.specs.Ordering.{int_eq}
use Rattle.half_grid.specs.declared.plane.Point.{Point}
use Rattle.layout_model.specs.Grids.{grid_places}
use Rattle.layout_model.specs.Paths.{drawn_path}
use Rattle.layout_model.specs.declared.orient.Orient.{Orient}
use Rattle.layout_model.specs.declared.shapes.Shape.{Shape}
use Rattle.layout_model.specs.declared.cells.Placement.{Placement}
use Rattle.layout_model.specs.declared.cells.Cell.{Cell}
use Rattle.layout_model.specs.declared.cells.Counts.{Counts}
use Rattle.layout_model.specs.declared.cells.Layout.{Layout}
use Rattle.layout_model.specs.declared.pair.Pair.{Pair}
use Rattle.gds_record.specs.declared.kinds.Kind.{Kind}
use Rattle.gds_record.specs.declared.kinds.Kind.TheVariants.{StrName, EndStr, Boundary, Path, Sref, Aref, Text, Xy}
use Rattle.gds_record.specs.declared.kinds.Kind.TheVariants.{Sname, Node, Strans, Mag, Angle, PropAttr, Box, BgnExtn}
use Rattle.gds_record.specs.declared.kinds.Kind.TheVariants.{EndExtn}
use Rattle.gds_record.specs.declared.records.Record.{Record}
use Rattle.gds_reader.specs.Past.{has_kind, element_kind, own_record, structure_record, given, given_in_structure, count_in}
use Rattle.gds_reader.specs.Values.{pair_of, is_wanted, name_in, points_in, half_width_of, is_absolute, extension_of}
use Rattle.gds_reader.specs.Values.{number2_in, factor_in, turns_in, columns_of, rows_of}

abbrev pub origin : Point
origin = record { x = pos 0; y = pos 0 }

-- ---- shapes

-- the shape of a BOUNDARY
abbrev pub boundary_shape : Pair → List Point → Shape
boundary_shape pair points = record { pair = pair; points = points; offsets = origin ∷ []; fixed = false }

-- the shapes of a PATH: none where it has no width
abbrev pub path_shapes_of : Pair → Bool → ℤ → ℤ → ℤ → List Point → List Shape
path_shapes_of pair fixed half_width begin end points =
    if int_eq half_width (pos 0) then [] else drawn_path pair (origin ∷ []) fixed points half_width begin end

-- the shapes of an element of this kind on a wanted pair
abbrev pub shapes_as : Option Kind → List ℕ → List Record → List Point → List Shape
shapes_as (Some Boundary) bytes past points = boundary_shape (pair_of bytes past) points ∷ []
shapes_as (Some Path) bytes past points =
    path_shapes_of (pair_of bytes past) (is_absolute bytes past) (half_width_of bytes past) (extension_of BgnExtn bytes past)
    (extension_of EndExtn bytes past) points
shapes_as _ bytes past points = []

abbrev pub shapes_at : List ℕ → List Pair → List Record → Record → List Shape
shapes_at bytes wanted past r =
    if has_kind Xy r then (
    if is_wanted bytes wanted past then shapes_as (element_kind past) bytes past (points_in bytes r) else [])
    else []

-- ---- placements

-- the bit of STRANS for the reflection is its highest
abbrev pub orient_of : List ℕ → List Record → Orient
orient_of bytes past = record {
  flip = nat_le 0x8000 (number2_in bytes (own_record Strans past));
  turns = turns_in bytes (own_record Angle past);
  mag = factor_in bytes (own_record Mag past);
}

-- an element with this SNAME places a structure
abbrev pub placed : List ℕ → List Record → Option Record → Point → List Point → List Placement
placed bytes past None at offsets = []
placed bytes past (Some r) at offsets =
    record { target = name_in bytes r; orient = orient_of bytes past; at = at; offsets = offsets } ∷ []

-- a whole number over a count, where the division is exact
abbrev pub quotient : ℤ → ℕ → ℤ
quotient (pos n) count = pos (n / count)
quotient (negsuc n) count = pos 0 -ℤ pos ((n + 1) / count)

-- the step of an array: the move from one point to another over the count
abbrev pub step_of : ℕ → Point → Point → Point
step_of count from to = record { x = quotient (to.x -ℤ from.x) count; y = quotient (to.y -ℤ from.y) count }

-- the places of an AREF with these points: columns run fastest
abbrev pub array_places : ℕ → ℕ → List Point → List Point
array_places columns rows (from ∷ right ∷ up ∷ []) = grid_places columns rows (step_of columns from right) (step_of rows from up)
array_places columns rows _ = []

abbrev pub first_of : List Point → Point
first_of [] = origin
first_of (point ∷ points) = point

abbrev pub placements_as : Option Kind → List ℕ → List Record → List Point → List Placement
placements_as (Some Sref) bytes past points = placed bytes past (own_record Sname past) (first_of points) (origin ∷ [])
placements_as (Some Aref) bytes past points =
    placed bytes past (own_record Sname past) (first_of points) (array_places (columns_of bytes past) (rows_of bytes past) points)
placements_as _ bytes past points = []

abbrev pub placements_at : List ℕ → List Record → Record → List Placement
placements_at bytes past r = if has_kind Xy r then placements_as (element_kind past) bytes past (points_in bytes r) else []

-- ---- cells

-- the cell of the structure that the last record is in, whose STRNAME is this
abbrev pub cells_named : List ℕ → List Pair → List Record → Option Record → List Cell
cells_named bytes wanted past None = []
cells_named bytes wanted past (Some r) = record {
  name = name_in bytes r;
  shapes = given_in_structure (shapes_at bytes wanted) past;
  placements = given_in_structure (placements_at bytes) past;
} ∷ []

-- a structure is whole at its ENDSTR
abbrev pub cells_at : List ℕ → List Pair → List Record → Record → List Cell
cells_at bytes wanted past r = if has_kind EndStr r then cells_named bytes wanted past (structure_record StrName past) else []

-- ---- counts

abbrev pub is_drawn : Option Kind → Bool
is_drawn (Some Boundary) = true
is_drawn (Some Path) = true
is_drawn _ = false

-- the XY record of a BOUNDARY or a PATH
abbrev pub is_drawn_at : List Record → Record → Bool
is_drawn_at past r = if has_kind Xy r then is_drawn (element_kind past) else false

-- whether the pair is wanted, at the XY record of a BOUNDARY or a PATH
abbrev pub wanted_at : List ℕ → List Pair → List Record → Record → Option Bool
wanted_at bytes wanted past r = if is_drawn_at past r then Some (is_wanted bytes wanted past) else None

abbrev pub is_kept : Option Bool → Bool
is_kept (Some wanted) = wanted
is_kept None = false

abbrev pub is_other : Option Bool → Bool
is_other (Some wanted) = not wanted
is_other None = false

abbrev pub count_kind : Kind → List Record → ℕ
count_kind kind past = count_in (λ _ r. has_kind kind r) past

-- ---- the layout

abbrev pub cells_of : List ℕ → List Pair → List Record → List Cell
cells_of bytes wanted past = given (cells_at bytes wanted) past

abbrev pub counts_of : List ℕ → List Pair → List Record → Counts
counts_of bytes wanted past = record {
  kept = count_in (λ before r. is_kept (wanted_at bytes wanted before r)) past;
  other = count_in (λ before r. is_other (wanted_at bytes wanted before r)) past;
  texts = count_kind Text past;
  nodes = count_kind Node past;
  boxes = count_kind Box past;
  properties = count_kind PropAttr past;
}

abbrev pub layout_of : List ℕ → List Pair → List Record → Layout
layout_of bytes wanted past = record { cells = cells_of bytes wanted past; counts = counts_of bytes wanted past }
