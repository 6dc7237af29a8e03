-- The tokens of a line: the longest runs of bytes from 21 to 7E hex, separated by spaces and tabs. Any other byte ends the
-- token before it and stands alone; it is a piece that fits nowhere. Columns count from 1.
use Rattle.std.specs.Prelude.{ℕ, ◌+◌, Bool, false, ◌&&◌, ◌||◌, ◌==◌, List, [], ◌∷◌, drop, if◌then◌else◌}
use Rattle.std.specs.Char.{is_ascii_graphic}

-- a token, or a single byte that belongs to none, and the column of its first byte
pub record Piece : Type 0 where
  pub column : ℕ
  pub bytes : List ℕ

abbrev pub piece : ℕ → List ℕ → Piece
piece column bytes = record { column = column; bytes = bytes }

-- a space or a tab
abbrev pub is_blank : ℕ → Bool
is_blank b = b == 32 || b == 9

-- a byte of a token comes first
abbrev pub goes_on : List ℕ → Bool
goes_on [] = false
goes_on (b ∷ bytes) = is_ascii_graphic b

-- the first piece with one more byte before it
abbrev pub longer : ℕ → ℕ → List Piece → List Piece
longer column b [] = []
longer column b (p ∷ ps) = piece column (b ∷ p.bytes) ∷ ps

-- the pieces of bytes of which the first has this column
unfoldable pub pieces_from : ℕ → List ℕ → List Piece
pieces_from column [] = []
pieces_from column (b ∷ bytes) =
    if is_blank b then pieces_from (column + 1) bytes else
    if is_ascii_graphic b && goes_on bytes then longer column b (pieces_from (column + 1) bytes) else
    piece column (b ∷ []) ∷ pieces_from (column + 1) bytes

-- the pieces of a line from this offset on
abbrev pub pieces_at : List ℕ → ℕ → List Piece
pieces_at line at = pieces_from (at + 1) (drop at line)
