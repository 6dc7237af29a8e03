-- What a terminal is sent.
use Rattle.std.specs.Prelude.{ℕ, zero, suc, List, [], ◌∷◌, ◌++◌, Option, length, take, get_or, nat_eq, nat_le, if◌then◌else◌}
use Rattle.std.specs.Io.KnownBytes.{Appends}
use Rattle.progress_line.specs.Text.{line_of}
use Rattle.progress_line.specs.declared.file.FileLine.{FileLine}

-- escape, then this
abbrev pub escape : List ℕ → List ℕ
escape word = 27 ∷ 91 ∷ word

-- how many of these first columns end before a space
abbrev pub whole_words : List ℕ → ℕ → ℕ
whole_words line zero = 0
whole_words line (suc n) = if nat_eq (get_or line (suc n) 0) 32 then suc n else whole_words line n

-- how many columns of a line are shown: all, or the words that have room
abbrev pub shown_columns : List ℕ → ℕ → ℕ
shown_columns line columns = if nat_le (length line) columns then length line else whole_words line columns

-- a line in place of what the row has: the words that these columns have room for, and no more than the row has
abbrev pub frame : List ℕ → ℕ → List ℕ
frame line columns = (13 ∷ escape (75 ∷ [])) ++ escape (63 ∷ 55 ∷ 108 ∷ []) ++ take (shown_columns line columns) line ++ escape (63 ∷ 55 ∷ 104 ∷ [])

-- the file's line was written once at most: a first part of it, or nothing
abbrev pub IsShownOnce : FileLine → ℕ → Option (List ℕ) → Option (List ℕ) → Type 0
IsShownOnce file columns old new =
    (seconds : ℕ) × (n : ℕ) × Appends old new (take n (frame (line_of file.phase file.name file.work file.done file.all seconds) columns))
