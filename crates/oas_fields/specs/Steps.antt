-- What a record changes in the fields that the program keeps.
use Rattle.std.specs.Prelude.{ℕ, ◌≡◌, ◌^◌, ℤ, pos, neg_ℤ, ◌+ℤ◌, ◌≤ℤ◌, Bool, true, false, if◌then◌else◌, Option, Some, None}
use Rattle.oas_record.specs.declared.taking.Lists.{Lists}
use Rattle.oas_fields.specs.Values.{or_else, length_of}
use Rattle.oas_fields.specs.Writes.{repetition_by}
use Rattle.oas_fields.specs.declared.fields.Fields.{Fields}
use Rattle.oas_fields.specs.declared.places.Place.{Place}
use Rattle.oas_fields.specs.declared.places.Step.{Step}
use Rattle.oas_fields.specs.declared.written.Written.{Written}

abbrev pub value_or : {A : Type 0} → Option A → A → A
value_or None before = before
value_or (Some a) before = a

-- a square has the width for its height
abbrev pub height_by : Written → Option ℕ → Option ℕ
height_by written width = if written.is_square then width else written.height

pub record IsNearCoordinate (z : ℤ) : Type 0 where
  pub low : neg_ℤ (pos (2 ^ 100)) ≤ℤ z
  pub high : z ≤ℤ pos (2 ^ 100)

abbrev pub coordinate_moved : Bool → Option ℤ → ℤ → ℤ
coordinate_moved is_relative None before = before
coordinate_moved true (Some z) before = before +ℤ z
coordinate_moved false (Some z) before = z

abbrev pub place_moved : Bool → Step → Place → Place
place_moved is_relative written before = record {
  x = coordinate_moved is_relative written.x before.x;
  y = coordinate_moved is_relative written.y before.y;
}

-- the fields after a record that writes this, lists aside
pub record AreWritten (written : Written) (old new : Fields) : Type 0 where
  pub mode : new.is_relative ≡ value_or written.is_relative old.is_relative
  pub layer : new.layer ≡ or_else written.layer old.layer
  pub datatype : new.datatype ≡ or_else written.datatype old.datatype
  pub width : new.width ≡ or_else written.width old.width
  pub height : new.height ≡ or_else (height_by written new.width) old.height
  pub half_width : new.half_width ≡ or_else written.half_width old.half_width
  pub start : new.start ≡ or_else (length_of new.half_width written.start) old.start
  pub end : new.end ≡ or_else (length_of new.half_width written.end) old.end
  pub kind : new.kind ≡ or_else written.kind old.kind
  pub cell : new.cell ≡ or_else written.cell old.cell
  pub placement : new.placement ≡ place_moved old.is_relative written.placement old.placement
  pub geometry : new.geometry ≡ place_moved old.is_relative written.geometry old.geometry
  pub text : new.text ≡ place_moved old.is_relative written.text old.text
  pub polygon_points : new.polygon_points ≡ old.polygon_points
  pub path_points : new.path_points ≡ old.path_points
  pub repetition : new.repetition ≡ old.repetition

-- the fields with these lists
pub record AreKept (lists : Lists) (old new : Fields) : Type 0 where
  pub mode : new.is_relative ≡ old.is_relative
  pub layer : new.layer ≡ old.layer
  pub datatype : new.datatype ≡ old.datatype
  pub width : new.width ≡ old.width
  pub height : new.height ≡ old.height
  pub half_width : new.half_width ≡ old.half_width
  pub start : new.start ≡ old.start
  pub end : new.end ≡ old.end
  pub kind : new.kind ≡ old.kind
  pub cell : new.cell ≡ old.cell
  pub placement : new.placement ≡ old.placement
  pub geometry : new.geometry ≡ old.geometry
  pub text : new.text ≡ old.text
  pub polygon_points : new.polygon_points ≡ or_else lists.polygon_points old.polygon_points
  pub path_points : new.path_points ≡ or_else lists.path_points old.path_points
  pub repetition : new.repetition ≡ or_else (repetition_by lists.repetition) old.repetition
