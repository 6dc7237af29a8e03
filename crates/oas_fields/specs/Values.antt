-- The value of a field (SEMI P39 1.0, section 7, modal variables).
--
-- An absent field takes the value that was written last in the same cell by a record that has this field. A position is
-- the last absolute value that was written, or 0 at the cell's start, and the sum of the relative values since. In these
-- definitions the records of a file stand with the last one first. What a record writes itself counts: so the value of a
-- field of a record, written or absent, is that of the list that begins with this record.
use Rattle.std.specs.Prelude.{ℕ, ◌≡◌, ℤ, pos, neg_ℤ, ◌+ℤ◌, ◌≤ℤ◌, Bool, true, false, if◌then◌else◌, Option, Some, None, List, [], ◌∷◌}
use Rattle.oas_record.specs.declared.fields.Called.{Called}
use Rattle.oas_record.specs.declared.fields.Deltas.{Deltas}
use Rattle.oas_record.specs.declared.records.OasRecord.{OasRecord}
use Rattle.oas_record.specs.declared.repetition.Rep.{Rep}
use Rattle.oas_record.specs.Taken.{polygon_points_in, path_points_in}
use Rattle.oas_fields.specs.Writes.{writes_of, repetition_written}
use Rattle.oas_fields.specs.declared.extension.Extension.{Extension}
use Rattle.oas_fields.specs.declared.extension.Extension.TheVariants as ends
use Rattle.oas_fields.specs.declared.fields.Fields.{Fields}
use Rattle.oas_fields.specs.declared.places.Place.{Place}
use Rattle.oas_fields.specs.declared.places.Step.{Step}

-- ---- the value that was written last

abbrev pub or_else : {A : Type 0} → Option A → Option A → Option A
or_else (Some a) other = Some a
or_else None other = other

abbrev pub begins_cell : OasRecord → Bool
begins_cell r = (writes_of r).begins_cell

-- what the last of these records that writes something wrote, back to the beginning of the cell; a record writes by
-- itself and those before it
abbrev pub last_written : {A : Type 0} → (List OasRecord → OasRecord → Option A) → List OasRecord → Option A
last_written written [] = None
last_written written (r ∷ past) =
    if begins_cell r then None else or_else (written past r) (last_written written past)

unfoldable pub layer_of : List OasRecord → Option ℕ
layer_of past = last_written (λ _ r. (writes_of r).layer) past

unfoldable pub datatype_of : List OasRecord → Option ℕ
datatype_of past = last_written (λ _ r. (writes_of r).datatype) past

unfoldable pub width_of : List OasRecord → Option ℕ
width_of past = last_written (λ _ r. (writes_of r).width) past

-- a square's height is the width of this record, written or not
abbrev pub height_written : List OasRecord → OasRecord → Option ℕ
height_written past r = if (writes_of r).is_square then width_of (r ∷ past) else (writes_of r).height

unfoldable pub height_of : List OasRecord → Option ℕ
height_of past = last_written height_written past

unfoldable pub polygon_points_of : List OasRecord → Option Deltas
polygon_points_of past = last_written (λ _ r. polygon_points_in r) past

unfoldable pub half_width_of : List OasRecord → Option ℕ
half_width_of past = last_written (λ _ r. (writes_of r).half_width) past

abbrev pub whole_of : Option ℕ → Option ℤ
whole_of None = None
whole_of (Some n) = Some (pos n)

-- the length of an end of a path of this half width
abbrev pub length_of : Option ℕ → Option Extension → Option ℤ
length_of half_width None = None
length_of half_width (Some ends.Flush) = Some (pos 0)
length_of half_width (Some ends.HalfWidth) = whole_of half_width
length_of half_width (Some (ends.Length length)) = Some length

-- the half width is that of this record, written or not
unfoldable pub start_of : List OasRecord → Option ℤ
start_of past = last_written (λ before r. length_of (half_width_of (r ∷ before)) (writes_of r).start) past

unfoldable pub end_of : List OasRecord → Option ℤ
end_of past = last_written (λ before r. length_of (half_width_of (r ∷ before)) (writes_of r).end) past

unfoldable pub path_points_of : List OasRecord → Option Deltas
path_points_of past = last_written (λ _ r. path_points_in r) past

-- the type of a CTRAPEZOID
unfoldable pub kind_of : List OasRecord → Option ℕ
kind_of past = last_written (λ _ r. (writes_of r).kind) past

-- the placed cell
unfoldable pub cell_of : List OasRecord → Option Called
cell_of past = last_written (λ _ r. (writes_of r).cell) past

unfoldable pub repetition_of : List OasRecord → Option Rep
repetition_of past = last_written (λ _ r. repetition_written r) past

-- ---- positions

abbrev pub or_false : Option Bool → Bool
or_false None = false
or_false (Some b) = b

-- positions are absolute at the beginning of a cell
unfoldable pub is_relative : List OasRecord → Bool
is_relative past = or_false (last_written (λ _ r. (writes_of r).is_relative) past)

abbrev pub or_zero : Option ℤ → ℤ
or_zero None = pos 0
or_zero (Some z) = z

-- what a record writes of a coordinate where positions are absolute after these records, and where they are relative
abbrev pub absolute : Bool → Option ℤ → Option ℤ
absolute true z = None
absolute false z = z

abbrev pub relative : Bool → Option ℤ → Option ℤ
relative true z = z
relative false z = None

-- a sum that begins anew at an absolute value
abbrev pub sum_behind : Option ℤ → Option ℤ → ℤ → ℤ
sum_behind (Some z) moved sum = pos 0
sum_behind None moved sum = sum +ℤ or_zero moved

-- the sum of the relative values since the last absolute one, back to the beginning of the cell
abbrev pub sum_since : (OasRecord → Option ℤ) → List OasRecord → ℤ
sum_since written [] = pos 0
sum_since written (r ∷ past) =
    if begins_cell r then pos 0
    else sum_behind (absolute (is_relative past) (written r)) (relative (is_relative past) (written r)) (sum_since written past)

-- the last absolute value, or 0, and the sum of the relative ones since
unfoldable pub coordinate : (OasRecord → Option ℤ) → List OasRecord → ℤ
coordinate written past =
    or_zero (last_written (λ before r. absolute (is_relative before) (written r)) past) +ℤ sum_since written past

unfoldable pub place_of : (OasRecord → Step) → List OasRecord → Place
place_of written past = record {
  x = coordinate (λ r. (written r).x) past;
  y = coordinate (λ r. (written r).y) past;
}

-- of placements
abbrev pub placement_of : List OasRecord → Place
placement_of past = place_of (λ r. (writes_of r).placement) past

-- of geometry
abbrev pub geometry_of : List OasRecord → Place
geometry_of past = place_of (λ r. (writes_of r).geometry) past

-- of texts
abbrev pub text_of : List OasRecord → Place
text_of past = place_of (λ r. (writes_of r).text) past

-- ---- what the program keeps

-- the fields have their values after these records
pub record AreFields (past : List OasRecord) (fields : Fields) : Type 0 where
  pub mode : fields.is_relative ≡ is_relative past
  pub layer : fields.layer ≡ layer_of past
  pub datatype : fields.datatype ≡ datatype_of past
  pub width : fields.width ≡ width_of past
  pub height : fields.height ≡ height_of past
  pub polygon_points : fields.polygon_points ≡ polygon_points_of past
  pub half_width : fields.half_width ≡ half_width_of past
  pub start : fields.start ≡ start_of past
  pub end : fields.end ≡ end_of past
  pub path_points : fields.path_points ≡ path_points_of past
  pub kind : fields.kind ≡ kind_of past
  pub cell : fields.cell ≡ cell_of past
  pub repetition : fields.repetition ≡ repetition_of past
  pub placement : fields.placement ≡ placement_of past
  pub geometry : fields.geometry ≡ geometry_of past
  pub text : fields.text ≡ text_of past

-- at most so far from 0
pub record IsPlaceWithin (bound : ℕ) (place : Place) : Type 0 where
  pub x_low : neg_ℤ (pos bound) ≤ℤ place.x
  pub x_high : place.x ≤ℤ pos bound
  pub y_low : neg_ℤ (pos bound) ≤ℤ place.y
  pub y_high : place.y ≤ℤ pos bound

-- all three positions are
pub record ArePlacesWithin (bound : ℕ) (fields : Fields) : Type 0 where
  pub placement : IsPlaceWithin bound fields.placement
  pub geometry : IsPlaceWithin bound fields.geometry
  pub text : IsPlaceWithin bound fields.text
