-- Numbers in a record: the highest byte first, and two's complement where they have a sign (GDSII Stream Format
-- Manual 6.0, data types).
use Rattle.std.specs.Prelude.{ℕ, ℤ, List, drop}
use Rattle.byteorder.specs.Endian.{big_number, twos_complement}

-- the number in the n bytes from an offset on
unfoldable pub number_at : ℕ → List ℕ → ℕ → ℕ
number_at n bytes at = big_number n (drop at bytes)

-- the same bytes as a number with a sign
abbrev pub signed_at : ℕ → List ℕ → ℕ → ℤ
signed_at n bytes at = twos_complement n (number_at n bytes at)
