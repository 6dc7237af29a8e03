-- The one text of a shot file: an OASIS file (SEMI P39 1.0) in half units with one cell SHOTS and one RECTANGLE or
-- TRAPEZOID record a shot, each with all its fields and each number in its shortest spelling.
use Rattle.std.specs.Prelude.{ℕ, ◌≡◌, ◌≤◌, ◌<◌, ◌*◌, ◌%◌, ◌^◌, ℤ, pos, ◌-ℤ◌, List, [], ◌∷◌, ◌++◌, replicate, flat_map, codes, unsigned_abs, if◌then◌else◌}
use Rattle.std.specs.Ordering.{int_eq}
use Rattle.std.specs.Int.{int_min}
use Rattle.half_grid.specs.Lines.{x_on}
use Rattle.half_grid.specs.Trapezoids.{Trapezoid, box_width}
use Rattle.oas_lex.specs.Spelling.{unsigned_text, signed_text}
use Rattle.oas_lex.specs.declared.fields.ShotFields.{ShotFields}

-- how many half units a micron has: twice a number of grid steps from 1 to a million
pub record IsUnit (unit : ℕ) : Type 0 where
  pub even : unit % 2 ≡ 0
  pub some : 2 ≤ unit
  pub few : unit ≤ 2 * 1000000

-- `%SEMI-OASIS`, CR, LF
abbrev pub magic : List ℕ
magic = codes "%SEMI-OASIS" ++ 13 ∷ 10 ∷ []

-- START: version 1.0, the unit as a real of kind 0, table offsets in START, all of them 0
abbrev pub start : ℕ → List ℕ
start unit = 1 ∷ 3 ∷ codes "1.0" ++ 0 ∷ unsigned_text unit ++ 0 ∷ replicate 12 0

-- CELL named SHOTS
abbrev pub cell : List ℕ
cell = 14 ∷ 5 ∷ codes "SHOTS"

-- END: a padding string of 252 bytes 0, no validation. It has 256 bytes.
abbrev pub end : List ℕ
end = 2 ∷ 252 ∷ 1 ∷ replicate 252 0 ++ 0 ∷ []

unfoldable pub head : ℕ → List ℕ
head unit = magic ++ start unit ++ cell

-- how far the left side and the right side lead to the right on the way up
abbrev pub left_delta : Trapezoid → ℤ
left_delta z = x_on z.left z.y1 -ℤ x_on z.left z.y0

abbrev pub right_delta : Trapezoid → ℤ
right_delta z = x_on z.right z.y1 -ℤ x_on z.right z.y0

abbrev pub least_x : Trapezoid → ℤ
least_x z = int_min (x_on z.left z.y0) (x_on z.left z.y1)

-- RECTANGLE where both sides are upright; TRAPEZOID with delta a alone, with delta b alone, or with both
abbrev pub id_for : ℤ → ℤ → ℕ
id_for left right =
    if int_eq left (pos 0) then (if int_eq right (pos 0) then 20 else 25)
    else (if int_eq right (pos 0) then 24 else 23)

abbrev pub delta_text : ℤ → List ℕ
delta_text delta = if int_eq delta (pos 0) then [] else signed_text delta

-- id, info byte 7B, layer, datatype, width, height, the deltas that aren't 0, x, y
unfoldable pub text_of : ShotFields → List ℕ
text_of f =
    id_for f.left_delta f.right_delta ∷ 123 ∷ unsigned_text f.layer ++ unsigned_text f.datatype
    ++ unsigned_text f.width ++ unsigned_text f.height
    ++ delta_text f.left_delta ++ delta_text f.right_delta
    ++ signed_text f.x ++ signed_text f.y

-- each field has at most 63 bits as spelled
pub record AreNarrow (f : ShotFields) : Type 0 where
  pub layer : f.layer < 2 ^ 63
  pub datatype : f.datatype < 2 ^ 63
  pub width : f.width < 2 ^ 63
  pub height : f.height < 2 ^ 63
  pub left : unsigned_abs f.left_delta < 2 ^ 62
  pub right : unsigned_abs f.right_delta < 2 ^ 62
  pub x : unsigned_abs f.x < 2 ^ 62
  pub y : unsigned_abs f.y < 2 ^ 62

-- the fields of a shot
abbrev pub fields_of : ℕ → ℕ → Trapezoid → ShotFields
fields_of layer datatype z = record {
  layer = layer;
  datatype = datatype;
  width = unsigned_abs (box_width z);
  height = unsigned_abs (z.y1 -ℤ z.y0);
  left_delta = left_delta z;
  right_delta = right_delta z;
  x = least_x z;
  y = z.y0;
}

-- the record of a shot
unfoldable pub spelling_of : ℕ → ℕ → Trapezoid → List ℕ
spelling_of layer datatype z = text_of (fields_of layer datatype z)

-- the text of a unit, a layer, a datatype and a list of shots
unfoldable pub shot_text : ℕ → ℕ → ℕ → List Trapezoid → List ℕ
shot_text unit layer datatype shots = head unit ++ flat_map (spelling_of layer datatype) shots ++ end
