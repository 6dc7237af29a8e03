-- Reals as OASIS spells them (SEMI P39 1.0, section 7, reals), and the whole numbers that they equal.
--
-- A byte gives the kind. 0 and 1 are a whole number, 2 and 3 one over a whole number, 4 and 5 a ratio of two, each number
-- unsigned and the real negative where the kind is odd. 6 and 7 are the four bytes of an IEEE single and the eight of an
-- IEEE double, the lowest first.
use Rattle.std.specs.Prelude.{ℕ, zero, suc, ◌+◌, ◌-◌, ◌*◌, ◌/◌, ◌%◌, ◌^◌, ◌<◌, ◌≤◌, ◌≡◌, ◌≢◌, ◌⊎◌, ℤ, pos, neg_ℤ}
use Rattle.std.specs.Prelude.{unsigned_abs, Option, Some, None, List, length, drop, slice_index, nat_lt, if◌then◌else◌}
use Rattle.byteorder.specs.Endian.{little_number}
use Rattle.oas_lex.specs.declared.LexBad.{LexBad}
use Rattle.oas_lex.specs.declared.LexBad.TheVariants.{RealKind}
use Rattle.oas_lex.specs.declared.reals.Real.{Real}
use Rattle.oas_lex.specs.Numbers.{HasUnsigned}
use Rattle.oas_lex.specs.Strings.{HasBytes, NumberFails, BytesFail}

-- what follows a real's kind
pub data RealForm : Type 0 where
  OneNumber : RealForm
  TwoNumbers : RealForm
  FourBytes : RealForm
  EightBytes : RealForm

abbrev pub form_of : ℕ → Option RealForm
form_of kind =
    if nat_lt kind 4 then Some OneNumber
    else if nat_lt kind 6 then Some TwoNumbers
    else if nat_lt kind 7 then Some FourBytes
    else if nat_lt kind 8 then Some EightBytes
    else None

-- one number, and no second one
pub record HasOneNumber (bytes : List ℕ) (at a b next : ℕ) : Type 0 where
  pub spells : HasUnsigned bytes at a next
  pub alone : b ≡ 0

-- so many bytes as one number, and no second one
pub record HasBits (bytes : List ℕ) (at count a b next : ℕ) : Type 0 where
  pub there : HasBytes bytes at count next
  pub value : a ≡ little_number count (drop at bytes)
  pub alone : b ≡ 0

-- the numbers of a real stand from `at` up to before `next`
abbrev pub HasRealParts : Option RealForm → List ℕ → ℕ → ℕ → ℕ → ℕ → Type 0
HasRealParts (Some OneNumber) bytes at a b next = HasOneNumber bytes at a b next
HasRealParts (Some TwoNumbers) bytes at a b next = (mid : ℕ) × HasUnsigned bytes at a mid × HasUnsigned bytes mid b next
HasRealParts (Some FourBytes) bytes at a b next = HasBits bytes at 4 a b next
HasRealParts (Some EightBytes) bytes at a b next = HasBits bytes at 8 a b next
HasRealParts None bytes at a b next = ⊥

-- the real stands at `at`
pub record HasReal (bytes : List ℕ) (at : ℕ) (real : Real) (next : ℕ) : Type 0 where
  pub within : at < length bytes
  pub kind : real.kind ≡ slice_index bytes at
  pub parts : HasRealParts (form_of (slice_index bytes at)) bytes (at + 1) real.a real.b next

-- the numbers of a real don't stand at `at`, for this cause
abbrev pub RealPartsFail : Option RealForm → List ℕ → ℕ → LexBad → Type 0
RealPartsFail (Some OneNumber) bytes at bad = NumberFails bytes at bad
RealPartsFail (Some TwoNumbers) bytes at bad =
    NumberFails bytes at bad ⊎ ((a : ℕ) × (mid : ℕ) × HasUnsigned bytes at a mid × NumberFails bytes mid bad)
RealPartsFail (Some FourBytes) bytes at bad = BytesFail bytes at 4 bad
RealPartsFail (Some EightBytes) bytes at bad = BytesFail bytes at 8 bad
RealPartsFail None bytes at bad = bad ≡ RealKind

-- the kind is there, and its numbers aren't, for this cause
pub record KindFails (bytes : List ℕ) (at : ℕ) (bad : LexBad) : Type 0 where
  pub within : at < length bytes
  pub fails : RealPartsFail (form_of (slice_index bytes at)) bytes (at + 1) bad

-- no real stands at `at`, for this cause
abbrev pub RealFails : List ℕ → ℕ → LexBad → Type 0
RealFails bytes at bad = BytesFail bytes at 1 bad ⊎ KindFails bytes at bad

-- ---- whole numbers

-- a magnitude, negative where the sign isn't 0
abbrev pub with_sign : ℕ → ℕ → ℤ
with_sign zero magnitude = pos magnitude
with_sign (suc sign) magnitude = neg_ℤ (pos magnitude)

-- the top is q times the bottom, which isn't 0
pub record IsQuotient (top bottom q : ℕ) : Type 0 where
  pub some : bottom ≢ 0
  pub exact : top ≡ q * bottom

-- the bits without the sign are those of q, at least 1, in a format of so many fraction bits and this bias, where 2^e is
-- the greatest power of two not above q
pub record IsPower (fraction bias bits q e : ℕ) : Type 0 where
  pub least : 2 ^ e ≤ q
  pub most : q < 2 ^ (e + 1)
  pub bits_are : bits ≡ (bias + e) * 2 ^ fraction + (q - 2 ^ e) * 2 ^ (fraction - e)

-- the bits without the sign are those of q: none is set for 0
abbrev pub IsIeee : ℕ → ℕ → ℕ → ℕ → Type 0
IsIeee fraction bias bits zero = bits ≡ 0
IsIeee fraction bias bits (suc q) = (e : ℕ) × IsPower fraction bias bits (suc q) e

-- a whole number, or one over it
abbrev pub top_of : Real → ℕ
top_of real = if nat_lt real.kind 2 then real.a else 1

abbrev pub bottom_of : Real → ℕ
bottom_of real = if nat_lt real.kind 2 then 1 else real.a

-- the sign of a real of this form: 0 where it isn't negative
abbrev pub sign_of : Option RealForm → Real → ℕ
sign_of (Some OneNumber) real = real.kind % 2
sign_of (Some TwoNumbers) real = real.kind % 2
sign_of (Some FourBytes) real = real.a / 2 ^ 31
sign_of (Some EightBytes) real = real.a / 2 ^ 63
sign_of None real = 0

-- the real of this form is q but for its sign
abbrev pub IsMagnitude : Option RealForm → Real → ℕ → Type 0
IsMagnitude (Some OneNumber) real q = IsQuotient (top_of real) (bottom_of real) q
IsMagnitude (Some TwoNumbers) real q = IsQuotient real.a real.b q
IsMagnitude (Some FourBytes) real q = IsIeee 23 127 (real.a % 2 ^ 31) q
IsMagnitude (Some EightBytes) real q = IsIeee 52 1023 (real.a % 2 ^ 63) q
IsMagnitude None real q = ⊥

-- the real equals n, which is below 2^24 but for its sign (this program's choice: greater ones aren't taken)
pub record IsWholeOasisReal (real : Real) (n : ℤ) : Type 0 where
  pub small : unsigned_abs n < 2 ^ 24
  pub signed : n ≡ with_sign (sign_of (form_of real.kind) real) (unsigned_abs n)
  pub magnitude : IsMagnitude (form_of real.kind) real (unsigned_abs n)
