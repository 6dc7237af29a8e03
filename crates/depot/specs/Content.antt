-- What stands outside a program, as a depot shows it: the files that can be read, what the started file has
-- still to give, the files that were made, the name that writes go to, and what was said to standard output.
-- A call changes one of these and leaves the rest, so each outcome is one equation between two contents.
use Rattle.std.specs.Prelude.{◌≡◌, ◌⊎◌, ℕ, ◌<◌, ◌≤◌, Bool, List, [], ◌∷◌, ◌++◌, length, take, drop, Option, None, Some}
use Rattle.std.specs.Prelude.{unwrap_or, if◌then◌else◌, IsSomeAnd, false, refl}
use Rattle.std.specs.Ordering.{nat_cmp}
use Rattle.std.specs.Cmp.Lexicographic.{slice_cmp}
use Rattle.std.specs.Coded.{Coded, coded×, coded_list, coded_ℕ, coded_bool, coded_option, code_by}
use Rattle.std.specs.FinMap.{FinMap, empty, get, insert, code}

-- Files by name. A name and the bytes of a file are lists of numbers below 256.
abbrev pub Files : Type 0
Files = FinMap (slice_cmp nat_cmp) (List ℕ)

abbrev pub files_code : Coded Files
files_code = code (coded_list coded_ℕ) (coded_list coded_ℕ)

pub record Content : Type 0 where
  -- the files that can be read
  pub held : Files
  -- whether a name that isn't held is an empty file
  pub blank : Bool
  -- what the started file has still to give; nothing before the first start
  pub left : List ℕ
  -- the files that were made, which no start of a read sees
  pub made : Files
  -- the name that writes go to, if there is one
  pub current : Option (List ℕ)
  -- what was said
  pub said : List ℕ

-- no file, and nothing said
abbrev pub nothing : Content
nothing = record { held = empty; blank = false; left = []; made = empty; current = None; said = [] }

-- A content is stored as the tuple of its parts.
abbrev pub content_code : Coded Content
content_code =
    code_by (Files × (Bool × (List ℕ × (Files × (Option (List ℕ) × List ℕ)))))
    (coded× files_code (coded× coded_bool (coded× (coded_list coded_ℕ) (coded× files_code (coded× (coded_option (coded_list coded_ℕ)) (coded_list coded_ℕ))))))
    (λ c. (c.held, (c.blank, (c.left, (c.made, (c.current, c.said))))))
    (λ p. record { held = p.0; blank = p.1.0; left = p.1.1.0; made = p.1.1.1.0; current = p.1.1.1.1.0; said = p.1.1.1.1.1 })
    (λ _. refl)

-- what a name holds, or None where it isn't there
abbrev pub held_as : Content → List ℕ → Option (List ℕ)
held_as c name = if c.blank then Some (unwrap_or (get c.held name) []) else get c.held name

-- no file of the name can be read
abbrev pub IsNotThere : Content → List ℕ → Type 0
IsNotThere c name = held_as c name ≡ None

-- the name can be read, and holds more bytes than that
abbrev pub IsLongerThan : ℕ → Content → List ℕ → Type 0
IsLongerThan limit c name = IsSomeAnd (held_as c name) (λ bytes. limit < length bytes)

-- the same but for what is left
abbrev pub with_left : Content → List ℕ → Content
with_left c bytes = record c { left = bytes }

-- nothing but what is left has changed
abbrev pub ChangesLeftOnly : Content → Content → Type 0
ChangesLeftOnly before now = now ≡ with_left before now.left

-- a read was started: what the name holds is left, and nothing else has changed
pub record StartsReading (before : Content) (name : List ℕ) (now : Content) : Type 0 where
  pub held : held_as before name ≡ Some now.left
  pub rest : ChangesLeftOnly before now

-- The first `count` bytes of what was left stand first in the buffer, whose other bytes are as before.
-- They are taken off what is left, and nothing else has changed.
pub record TakesFirst (before : Content) (count : ℕ) (buffer filled : List ℕ) (now : Content) : Type 0 where
  pub there : count ≤ length before.left
  pub rest : now ≡ with_left before (drop count before.left)
  pub given : filled ≡ take count before.left ++ drop count buffer

-- the same but for the name that writes go to
abbrev pub with_current : Content → Option (List ℕ) → Content
with_current c name = record c { current = name }

-- the name is made with these bytes, and writes go on to it
abbrev pub with_file : Content → List ℕ → List ℕ → Content
with_file c name bytes = record c { made = insert c.made name bytes; current = Some name }

-- a file can be read: the name holds these bytes in place of older ones, and nothing is left of a started file
abbrev pub with_held : Content → List ℕ → List ℕ → Content
with_held c name bytes = record c { held = insert c.held name bytes; left = [] }

-- a file is begun: the name is made with no bytes, and writes go to it
abbrev pub begun : Content → List ℕ → Content
begun c name = with_file c name []

-- a start of a write was refused: the name is as before or made with no bytes, and writes go nowhere
abbrev pub IsNotBegun : Content → List ℕ → Content → Type 0
IsNotBegun before name now = (now ≡ with_current before None) ⊎ (now ≡ with_current (begun before name) None)

-- the files once bytes were put after those of the current name
abbrev pub appended : Files → Option (List ℕ) → List ℕ → Files
appended files current [] = files
appended files None (b ∷ bytes) = files
appended files (Some name) (b ∷ bytes) = insert files name (unwrap_or (get files name) [] ++ b ∷ bytes)

-- bytes were written to the current name
abbrev pub with_written : Content → List ℕ → Content
with_written c bytes = record c { made = appended c.made c.current bytes }

-- a prefix of the bytes was written to the current name
abbrev pub IsPartWritten : Content → List ℕ → Content → Type 0
IsPartWritten before bytes now = (n : ℕ) × (n ≤ length bytes) × (now ≡ with_written before (take n bytes))

-- bytes were said
abbrev pub with_said : Content → List ℕ → Content
with_said c bytes = record c { said = c.said ++ bytes }

-- a prefix of the bytes was said
abbrev pub IsPartSaid : Content → List ℕ → Content → Type 0
IsPartSaid before bytes now = (n : ℕ) × (n ≤ length bytes) × (now ≡ with_said before (take n bytes))

-- The name is made with a prefix of the bytes, or is as before. Nothing else has changed but the name that
-- writes go to.
abbrev pub IsPartMade : Content → List ℕ → List ℕ → Content → Type 0
IsPartMade before name bytes now =
    (now ≡ with_current before now.current)
    ⊎ ((n : ℕ) × (n ≤ length bytes) × (now ≡ with_current (with_file before name (take n bytes)) now.current))
