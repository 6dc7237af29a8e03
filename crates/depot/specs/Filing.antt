-- Files in memory: a list of files in which the first of a name counts, seen as the map from names to bytes.
use Rattle.std.specs.Prelude.{◌≡◌, ℕ, zero, suc, ◌<◌, ◌≤◌, List, [], ◌∷◌, drop, length, Option, None, Some}
use Rattle.std.specs.String.{string_bytes}
use Rattle.std.specs.FinMap.{empty, insert}
use Rattle.depot.specs.Content.{Files}
use Rattle.depot.specs.declared.filing.File.{File}

-- the files by name
abbrev pub files_of : List File → Files
files_of [] = empty
files_of (f ∷ fs) = insert (files_of fs) (string_bytes f.name) f.bytes.items

-- the first file with the name stands at that place
abbrev pub IsPlace : List File → List ℕ → ℕ → Type 0
IsPlace [] name i = ⊥
IsPlace (f ∷ fs) name zero = string_bytes f.name ≡ name
IsPlace (f ∷ fs) name (suc i) = (string_bytes f.name ≡ name → ⊥) × IsPlace fs name i

-- no file has the name
abbrev pub HasNone : List File → List ℕ → Type 0
HasNone [] name = Unit {0}
HasNone (f ∷ fs) name = (string_bytes f.name ≡ name → ⊥) × HasNone fs name

-- the bytes of the file at a place, and none past the end
abbrev pub bytes_at : List File → ℕ → List ℕ
bytes_at [] i = []
bytes_at (f ∷ fs) zero = f.bytes.items
bytes_at (f ∷ fs) (suc i) = bytes_at fs i

-- the name of the file at a place, and the empty one past the end
abbrev pub name_at : List File → ℕ → List ℕ
name_at [] i = []
name_at (f ∷ fs) zero = string_bytes f.name
name_at (f ∷ fs) (suc i) = name_at fs i

-- what the file at a place has still to give, of which so many bytes were given
abbrev pub left_of : List File → Option ℕ → ℕ → List ℕ
left_of fs None given = []
left_of fs (Some i) given = drop given (bytes_at fs i)

-- the place, if there is one, is that of a file of which so many bytes may have been given
abbrev pub IsReadAt : List File → Option ℕ → ℕ → Type 0
IsReadAt fs None given = Unit {0}
IsReadAt fs (Some i) given = (i < length fs) × (given ≤ length (bytes_at fs i))

-- the place, if there is one, is that of the first file of its name
abbrev pub IsWrittenAt : List File → Option ℕ → Type 0
IsWrittenAt fs None = Unit {0}
IsWrittenAt fs (Some i) = IsPlace fs (name_at fs i) i
