-- Eight-byte reals (GDSII Stream Format Manual 6.0, data types): a bit of sign, seven bits of exponent E and 56 bits
-- of fraction M. The value is M / 2^56 * 16^(E - 64), below 0 where the sign is set.
use Rattle.std.specs.Prelude.{◌≡◌, ◌≤◌, ◌+◌, ◌-◌, ◌*◌, ◌/◌, ◌%◌, ◌^◌, ◌⊎◌, ℕ, zero, suc, ℤ, pos, ◌*ℤ◌, neg_ℤ}

abbrev pub sign_of : ℕ → ℕ
sign_of bits = bits / 2 ^ 63

abbrev pub exponent_of : ℕ → ℕ
exponent_of bits = bits / 2 ^ 56 % 2 ^ 7

abbrev pub fraction_of : ℕ → ℕ
fraction_of bits = bits % 2 ^ 56

-- a magnitude with a bit of sign
abbrev pub with_sign : ℕ → ℕ → ℤ
with_sign zero magnitude = pos magnitude
with_sign (suc sign) magnitude = neg_ℤ (pos magnitude)

-- the real equals the whole number n, both sides multiplied by 16^64 * 2^56
abbrev pub IsRealValue : ℕ → ℤ → Type 0
IsRealValue bits n =
    with_sign (sign_of bits) (fraction_of bits * 16 ^ exponent_of bits) ≡ n *ℤ pos (16 ^ 64 * 2 ^ 56)

-- the real is its fraction over 2^s, s being 56 + 4 * (64 - E)
abbrev pub IsShift : ℕ → ℕ → Type 0
IsShift bits s = s + 4 * exponent_of bits ≡ 56 + 4 * 64

-- the real is 0, or it is its fraction over a power of two from 2^0 to 2^56 (this program's choice: a real whose
-- exponent is too large for that isn't taken as a whole number)
abbrev pub IsInScope : ℕ → Type 0
IsInScope bits = (fraction_of bits ≡ 0) ⊎ ((s : ℕ) × IsShift bits s × (s ≤ 56))

-- the real is taken as the whole number n
pub record IsWholeGdsiiReal (bits : ℕ) (n : ℤ) : Type 0 where
  pub scope : IsInScope bits
  pub value : IsRealValue bits n

-- two numbers differ by at most the tolerance
pub record IsWithinTolerance (a b tolerance : ℕ) : Type 0 where
  pub above : a ≤ b + tolerance
  pub below : b ≤ a + tolerance

-- the real is its fraction over 2^s, it isn't below 0, and times the units in a metre it is 1 but for one part in 2^40,
-- where a micrometre has this many units: |M * unit * 10^6 - 2^s| is at most 2^(s - 40)
pub record AgreesBy (bits unit s : ℕ) : Type 0 where
  pub shift : IsShift bits s
  pub least : 40 ≤ s
  pub most : s ≤ 110
  pub positive : sign_of bits ≡ 0
  pub near : IsWithinTolerance (fraction_of bits * unit * 10 ^ 6) (2 ^ s) (2 ^ (s - 40))

-- the real, in metres, is the length of a unit of which a micrometre has this many
abbrev pub AgreesWithUnit : ℕ → ℕ → Type 0
AgreesWithUnit bits unit = (s : ℕ) × AgreesBy bits unit s
