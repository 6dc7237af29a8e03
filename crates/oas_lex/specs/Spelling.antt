-- The shortest spellings of whole numbers in OASIS (SEMI P39 1.0, section 7.2).
--
-- An unsigned integer is spelled in groups of 7 bits, lowest first, each in a byte whose top bit is set in all
-- but the last. A signed integer has its sign in bit 0 and its magnitude above. The shortest form has no group of
-- zeros at its end; that of a signed 0 is 00.
use Rattle.std.specs.Prelude.{ℕ, zero, suc, ◌+◌, ◌*◌, ◌/◌, ◌%◌, ℤ, pos, negsuc, List, [], ◌∷◌, nat_lt, if◌then◌else◌}

-- the groups of a number, of which there may be so many more than one
abbrev pub groups : ℕ → ℕ → List ℕ
groups zero n = n ∷ []
groups (suc more) n = if nat_lt n 128 then n ∷ [] else (n % 128 + 128) ∷ groups more (n / 128)

-- a number below 2^70 in at most ten groups
unfoldable pub unsigned_text : ℕ → List ℕ
unsigned_text n = groups 9 n

-- the sign in bit 0, the magnitude above
abbrev pub signed_code : ℤ → ℕ
signed_code (pos n) = 2 * n
signed_code (negsuc n) = 2 * (n + 1) + 1

abbrev pub signed_text : ℤ → List ℕ
signed_text z = unsigned_text (signed_code z)
