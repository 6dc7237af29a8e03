-- The shortest spelling of a number among bytes.
use Rattle.std.specs.Prelude.{ℕ, ◌≡◌, ◌≢◌, ◌⊎◌, ◌+◌, ◌-◌, List, get_or}

-- a number between two offsets is one byte, or its last byte isn't 0
abbrev pub IsShort : List ℕ → ℕ → ℕ → Type 0
IsShort bytes at next = (next ≡ at + 1) ⊎ (get_or bytes (next - 1) 0 ≢ 0)
