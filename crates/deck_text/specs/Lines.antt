-- The lines of a deck. Each ends with LF, which the last may lack, and one CR before LF is dropped. Bytes that end with
-- LF begin no further line.
use Rattle.std.specs.Prelude.{ℕ, Bool, false, ◌&&◌, ◌==◌, List, [], ◌∷◌, if◌then◌else◌}

-- LF comes first
abbrev pub is_at_end : List ℕ → Bool
is_at_end [] = false
is_at_end (b ∷ bytes) = b == 10

-- the byte before those of the first line
abbrev pub onto : ℕ → List (List ℕ) → List (List ℕ)
onto b [] = (b ∷ []) ∷ []
onto b (line ∷ lines) = (b ∷ line) ∷ lines

unfoldable pub lines_of : List ℕ → List (List ℕ)
lines_of [] = []
lines_of (b ∷ bytes) =
    if b == 10 then [] ∷ lines_of bytes else
    if b == 13 && is_at_end bytes then lines_of bytes else
    onto b (lines_of bytes)
