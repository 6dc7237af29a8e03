-- Whole numbers as OASIS spells them (SEMI P39 1.0, section 7.2), and where one stands among bytes.
--
-- An unsigned number is spelled in groups of 7 bits, lowest first, one group a byte. The byte's top bit is set on
-- all bytes but the last. Groups of zeros may stand at the end. In the spelling of a signed number bit 0 is the sign
-- and the bits above it are the magnitude. A number of more than 63 bits as spelled, sign bit included, is too wide.
use Rattle.std.specs.Prelude.{ℕ, ◌+◌, ◌*◌, ◌/◌, ◌%◌, ◌^◌, ◌<◌, ◌≤◌, ◌≡◌, ◌==◌, ◌⊎◌, ℤ, pos, neg_ℤ, List, [], ◌∷◌}
use Rattle.std.specs.Prelude.{length, take, drop, slice_range, if◌then◌else◌}

-- the top bit is set on each byte, so the number goes on after them
abbrev pub GoesOn : List ℕ → Type 0
GoesOn [] = Unit {0}
GoesOn (byte ∷ rest) = (128 ≤ byte) × GoesOn rest

-- the top bit is set on all bytes but the last
abbrev pub IsWholeNumber : List ℕ → Type 0
IsWholeNumber [] = ⊥
IsWholeNumber (byte ∷ rest) = ((byte < 128) × (rest ≡ [])) ⊎ ((128 ≤ byte) × IsWholeNumber rest)

-- the number that the groups of the bytes make
abbrev pub value_of : List ℕ → ℕ
value_of [] = 0
value_of (byte ∷ rest) = byte % 128 + 128 * value_of rest

-- the bytes spell the unsigned number
pub record IsUnsigned (bytes : List ℕ) (n : ℕ) : Type 0 where
  pub whole : IsWholeNumber bytes
  pub value : value_of bytes ≡ n

-- the number with its sign in bit 0 and its magnitude above
abbrev pub signed_value : ℕ → ℤ
signed_value code = if code % 2 == 0 then pos (code / 2) else neg_ℤ (pos (code / 2))

-- the bytes spell the signed number
pub record IsSigned (bytes : List ℕ) (z : ℤ) : Type 0 where
  pub whole : IsWholeNumber bytes
  pub value : signed_value (value_of bytes) ≡ z

-- the bytes spell the unsigned number, and no spelling of it is shorter
pub record IsShortest (bytes : List ℕ) (n : ℕ) : Type 0 where
  pub spells : IsUnsigned bytes n
  pub least : (other : List ℕ) → IsUnsigned other n → length bytes ≤ length other

-- an unsigned number of at most 63 bits stands among the bytes from `at` up to before `next`
pub record HasUnsigned (bytes : List ℕ) (at n next : ℕ) : Type 0 where
  pub within : next ≤ length bytes
  pub spells : IsUnsigned (slice_range bytes at next) n
  pub narrow : n < 2 ^ 63

-- a signed number of at most 63 bits, its sign included, stands among the bytes from `at` up to before `next`
pub record HasSigned (bytes : List ℕ) (at : ℕ) (z : ℤ) (next : ℕ) : Type 0 where
  pub within : next ≤ length bytes
  pub spells : IsSigned (slice_range bytes at next) z
  pub narrow : value_of (slice_range bytes at next) < 2 ^ 63

-- the bytes end before the number that begins at `at` does, and before it is too wide
pub record EndsFirst (bytes : List ℕ) (at : ℕ) : Type 0 where
  pub goes_on : GoesOn (drop at bytes)
  pub narrow : value_of (drop at bytes) < 2 ^ 63

-- the number that begins at `at` is too wide once the group after `before` groups is read
pub record IsWideAfter (bytes : List ℕ) (at before : ℕ) : Type 0 where
  pub within : at + before < length bytes
  pub goes_on : GoesOn (take before (drop at bytes))
  pub wide : 2 ^ 63 ≤ value_of (take (before + 1) (drop at bytes))

abbrev pub IsWide : List ℕ → ℕ → Type 0
IsWide bytes at = (before : ℕ) × IsWideAfter bytes at before
