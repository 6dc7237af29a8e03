-- A record of a packed shot file as it is written: RECTANGLE or TRAPEZOID (SEMI P39 1.0). Its info byte says which fields
-- are written, and each number is in its shortest spelling.
use Rattle.std.specs.Prelude.{ℕ, ◌+◌, ◌*◌, ◌<◌, ◌^◌, ℤ, pos, negsuc, Bool, List, [], ◌∷◌, ◌++◌, Option, Some, None, is_some, unsigned_abs, if◌then◌else◌}
use Rattle.oas_lex.specs.Spelling.{unsigned_text, signed_text}
use Rattle.oas_lex.specs.ShotText.{id_for, delta_text}
use Rattle.shot_repeat.specs.declared.record.PackRecord.{PackRecord}
use Rattle.shot_repeat.specs.declared.record.Repetition.{Repetition}

-- a bit of the info byte, set where a field is written
abbrev pub bit : ℕ → Bool → ℕ
bit weight there = if there then weight else 0

-- the info byte: the width, the height, x, y, a repetition, the datatype, the layer
abbrev pub info_of : PackRecord → ℕ
info_of r =
    bit 64 (is_some r.width) + bit 32 (is_some r.height) + (bit 16 (is_some r.x) + bit 8 (is_some r.y))
    + bit 4 (is_some r.repetition) + (bit 2 (is_some r.datatype) + bit 1 (is_some r.layer))

-- an unsigned field, where it is written
abbrev pub number_text : Option ℕ → List ℕ
number_text None = []
number_text (Some n) = unsigned_text n

-- x or y, where it is written
abbrev pub place_text : Option ℤ → List ℕ
place_text None = []
place_text (Some z) = signed_text z

-- The first number of a g-delta of two numbers: bit 0 is set, bit 1 is set where x is negative, and the magnitude of x
-- is above.
abbrev pub step_code : ℤ → ℕ
step_code (pos n) = 4 * n + 1
step_code (negsuc n) = 4 * (n + 1) + 3

-- the number of shots less 2, and a g-delta of two numbers
abbrev pub steps_text : Repetition → List ℕ
steps_text p = unsigned_text p.more ++ unsigned_text (step_code p.x) ++ signed_text p.y

-- a repetition of kind 9
abbrev pub repetition_text : Option Repetition → List ℕ
repetition_text None = []
repetition_text (Some p) = 9 ∷ steps_text p

-- the id, the info byte, and the fields in the order of a RECTANGLE or a TRAPEZOID
unfoldable pub body_text : PackRecord → List ℕ
body_text r =
    id_for r.left_delta r.right_delta ∷ info_of r ∷ number_text r.layer ++ number_text r.datatype
    ++ number_text r.width ++ number_text r.height
    ++ delta_text r.left_delta ++ delta_text r.right_delta
    ++ place_text r.x ++ place_text r.y

-- the record
unfoldable pub record_text : PackRecord → List ℕ
record_text r = body_text r ++ repetition_text r.repetition

-- each field has at most 63 bits as spelled

abbrev pub IsNarrowNumber : Option ℕ → Type 0
IsNarrowNumber None = Unit {0}
IsNarrowNumber (Some n) = n < 2 ^ 63

abbrev pub IsNarrowPlace : Option ℤ → Type 0
IsNarrowPlace None = Unit {0}
IsNarrowPlace (Some z) = unsigned_abs z < 2 ^ 62

abbrev pub IsNarrowRepetition : Option Repetition → Type 0
IsNarrowRepetition None = Unit {0}
IsNarrowRepetition (Some p) = (p.more < 2 ^ 63) × (unsigned_abs p.x < 2 ^ 61) × (unsigned_abs p.y < 2 ^ 62)

pub record IsNarrow (r : PackRecord) : Type 0 where
  pub layer : IsNarrowNumber r.layer
  pub datatype : IsNarrowNumber r.datatype
  pub width : IsNarrowNumber r.width
  pub height : IsNarrowNumber r.height
  pub left : unsigned_abs r.left_delta < 2 ^ 62
  pub right : unsigned_abs r.right_delta < 2 ^ 62
  pub x : IsNarrowPlace r.x
  pub y : IsNarrowPlace r.y
  pub repetition : IsNarrowRepetition r.repetition
