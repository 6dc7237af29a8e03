-- The words of the program, each as its bytes, and the commands that they are.
use Rattle.std.specs.Prelude.{◌≡◌, ◌≢◌, ◌≤◌, ◌==◌, ℕ, Bool, false, IsTrue, if◌then◌else◌, List, [], ◌∷◌, ◌++◌, Some, codes}
use Rattle.std.specs.List.{list_all}
use Rattle.std.specs.Char.{is_ascii_digit}
use Rattle.deck_text.specs.Kinds.{digits_value}

-- A command, with its number and the names of its files. Of one that reads a job they are LAYOUT and DECK, and of one that
-- reads a shot file and writes, FILE and OUT.
pub data Command : Type 0 where
  Fracture : List ℕ → List ℕ → Command
  Check : List ℕ → List ℕ → Command
  Shots : List ℕ → Command
  Pack : List ℕ → List ℕ → Command
  Unpack : List ℕ → List ℕ → Command
  Split : ℕ → List ℕ → List ℕ → Command
  Density : ℕ → List ℕ → List ℕ → Command
  Generate : ℕ → List ℕ → Command

-- ---- numbers

-- 1 to 18 digits, the value of which is in this range
pub record IsNumberWithin (least most : ℕ) (digits : List ℕ) (n : ℕ) : Type 0 where
  pub value : digits_value digits ≡ Some n
  pub from : least ≤ n
  pub to : n ≤ most

-- one digit or more
abbrev pub are_some_digits : List ℕ → Bool
are_some_digits [] = false
are_some_digits (d ∷ digits) = list_all is_ascii_digit (d ∷ digits)

-- an optional `-`, and then one digit or more
unfoldable pub is_whole_number : List ℕ → Bool
is_whole_number [] = false
is_whole_number (b ∷ bytes) = if b == 45 then are_some_digits bytes else are_some_digits (b ∷ bytes)

-- a point, and then a whole number
unfoldable pub is_stripe_ending : List ℕ → Bool
is_stripe_ending [] = false
is_stripe_ending (b ∷ number) = if b == 46 then is_whole_number number else false

-- the name is OUT, a point and a whole number, as the files of stripes are named
pub record IsStripeName (out name : List ℕ) : Type 0 where
  pub ending : List ℕ
  pub is : name ≡ out ++ ending
  pub of_stripe : IsTrue (is_stripe_ending ending)

-- ---- commands

-- `fracture LAYOUT DECK`
abbrev pub IsFracture : List (List ℕ) → List ℕ → List ℕ → Type 0
IsFracture words layout deck = words ≡ codes "fracture" ∷ layout ∷ deck ∷ []

-- `check LAYOUT DECK`
abbrev pub IsCheck : List (List ℕ) → List ℕ → List ℕ → Type 0
IsCheck words layout deck = words ≡ codes "check" ∷ layout ∷ deck ∷ []

-- `shots FILE`
abbrev pub IsShots : List (List ℕ) → List ℕ → Type 0
IsShots words file = words ≡ codes "shots" ∷ file ∷ []

-- `pack FILE OUT`, where the two differ
pub record IsPack (words : List (List ℕ)) (file out : List ℕ) : Type 0 where
  pub are : words ≡ codes "pack" ∷ file ∷ out ∷ []
  pub differ : file ≢ out

-- `unpack FILE OUT`, where the two differ
pub record IsUnpack (words : List (List ℕ)) (file out : List ℕ) : Type 0 where
  pub are : words ≡ codes "unpack" ∷ file ∷ out ∷ []
  pub differ : file ≢ out

-- `split SIZE FILE OUT`, where SIZE is 16 to 16,777,216 and FILE no name of a stripe's file
pub record IsSplit (words : List (List ℕ)) (size : ℕ) (file out : List ℕ) : Type 0 where
  pub digits : List ℕ
  pub are : words ≡ codes "split" ∷ digits ∷ file ∷ out ∷ []
  pub number : IsNumberWithin 16 16777216 digits size
  pub apart : IsStripeName out file → ⊥

-- `density SIZE LAYOUT DECK`, where SIZE is 64 to 16,777,216
pub record IsDensity (words : List (List ℕ)) (size : ℕ) (layout deck : List ℕ) : Type 0 where
  pub digits : List ℕ
  pub are : words ≡ codes "density" ∷ digits ∷ layout ∷ deck ∷ []
  pub number : IsNumberWithin 64 16777216 digits size

-- `generate N FILE`, where N is 1 to 1,000
pub record IsGenerate (words : List (List ℕ)) (n : ℕ) (file : List ℕ) : Type 0 where
  pub digits : List ℕ
  pub are : words ≡ codes "generate" ∷ digits ∷ file ∷ []
  pub number : IsNumberWithin 1 1000 digits n

-- the words are this command
abbrev pub AreWordsOf : List (List ℕ) → Command → Type 0
AreWordsOf words (Fracture layout deck) = IsFracture words layout deck
AreWordsOf words (Check layout deck) = IsCheck words layout deck
AreWordsOf words (Shots file) = IsShots words file
AreWordsOf words (Pack file out) = IsPack words file out
AreWordsOf words (Unpack file out) = IsUnpack words file out
AreWordsOf words (Split size file out) = IsSplit words size file out
AreWordsOf words (Density size layout deck) = IsDensity words size layout deck
AreWordsOf words (Generate n file) = IsGenerate words n file

-- the words are no command
abbrev pub IsNoCommand : List (List ℕ) → Type 0
IsNoCommand words = (command : Command) → AreWordsOf words command → ⊥
