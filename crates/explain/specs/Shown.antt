-- How bytes and numbers are shown.
use Rattle.std.specs.Prelude.{ℕ, zero, suc, ◌%◌, List, [], ◌∷◌, ◌++◌, ◌&&◌, nat_eq, nat_le, length, if◌then◌else◌}

-- a visible ASCII character or a space as it is, a tab as a space, and another byte as `?`
abbrev pub shown : ℕ → ℕ
shown b = if nat_eq b 9 then 32 else if nat_le 32 b && nat_le b 126 then b else 63

-- the comma after a digit with so many digits after it
abbrev pub comma_after : ℕ → List ℕ
comma_after left = if nat_eq left 0 then [] else if nat_eq (left % 3) 0 then 44 ∷ [] else []

-- digits in groups of three from the end, with commas between them
unfoldable pub grouped : List ℕ → List ℕ
grouped [] = []
grouped (d ∷ ds) = d ∷ (comma_after (length ds) ++ grouped ds)

-- so many blanks
unfoldable pub blanks : ℕ → List ℕ
blanks zero = []
blanks (suc n) = 32 ∷ blanks n
