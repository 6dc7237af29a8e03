-- A command that makes one file and then says a line of it.
use Rattle.std.specs.Prelude.{◌≡◌, ◌⊎◌, ℕ, List}
use Rattle.depot.specs.Content.{Content, with_file, with_said, IsPartMade, IsPartSaid}

-- the file is made with these bytes, and the line said
abbrev pub IsFiled : Content → Content → (name bytes line : List ℕ) → Type 0
IsFiled before now name bytes line = now ≡ with_said (with_file before name bytes) line

-- the file is as before or holds a prefix of the bytes, and nothing was said; or it holds them all, and a prefix of the
-- line was said
abbrev pub IsHalfFiled : Content → Content → (name bytes line : List ℕ) → Type 0
IsHalfFiled before now name bytes line = IsPartMade before name bytes now ⊎ IsPartSaid (with_file before name bytes) line now
