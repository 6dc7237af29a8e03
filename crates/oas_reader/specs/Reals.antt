-- What the real of a magnification or an angle is, rounded to 0 to a whole number: exact where it is one.
use Rattle.std.specs.Prelude.{ℕ, ◌+◌, ◌*◌, ◌/◌, ◌%◌, ◌^◌, Option, Some, None}
use Rattle.layout_model.specs.Turns.{turns_by, IsFactorBy, IsQuarterAngleBy}
use Rattle.oas_lex.specs.Reals.{RealForm, OneNumber, TwoNumbers, FourBytes, EightBytes, form_of, sign_of, top_of, bottom_of, IsWholeOasisReal}
use Rattle.oas_lex.specs.declared.reals.Real.{Real}

-- the bits of an IEEE number without its sign, with so many fraction bits and this bias
unfoldable pub ieee_floor : ℕ → ℕ → ℕ → ℕ
ieee_floor fraction bias bits = (2 ^ fraction + bits % 2 ^ fraction) * 2 ^ (bits / 2 ^ fraction) / 2 ^ (fraction + bias)

abbrev pub floor_by : Option RealForm → Real → ℕ
floor_by (Some OneNumber) real = top_of real / bottom_of real
floor_by (Some TwoNumbers) real = real.a / real.b
floor_by (Some FourBytes) real = ieee_floor 23 127 (real.a % 2 ^ 31)
floor_by (Some EightBytes) real = ieee_floor 52 1023 (real.a % 2 ^ 63)
floor_by None real = 0

-- the absolute value of a real, rounded down
unfoldable pub floor_of : Real → ℕ
floor_of real = floor_by (form_of real.kind) real

-- a missing magnification is 1
abbrev pub factor_of : Option Real → ℕ
factor_of None = 1
factor_of (Some real) = floor_of real

-- a missing angle is 0
abbrev pub turns_of : Option Real → ℕ
turns_of None = 0
turns_of (Some real) = turns_by (sign_of (form_of real.kind) real) (floor_of real / 90)

-- ---- what is allowed

-- a whole number from 1 to 16
abbrev pub IsOasisFactor : Option Real → Type 0
IsOasisFactor None = Unit {0}
IsOasisFactor (Some real) = IsFactorBy (IsWholeOasisReal real)

-- a multiple of 90 from -360 to 360
abbrev pub IsOasisAngle : Option Real → Type 0
IsOasisAngle None = Unit {0}
IsOasisAngle (Some real) = IsQuarterAngleBy (IsWholeOasisReal real)
