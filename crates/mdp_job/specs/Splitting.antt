-- What the program owes for `split SIZE FILE OUT`: the files of the stripes of FILE's shots, and what is said of them.
use Rattle.std.specs.Prelude.{◌≡◌, ◌⊎◌, ℕ, ◌<◌, ℤ, pos, ◌+ℤ◌, ◌-ℤ◌, ◌<ℤ◌, List, [], ◌++◌, flat_map, codes, decimal}
use Rattle.std.specs.Fmt.{signed_decimal}
use Rattle.std.specs.List.{All}
use Rattle.half_grid.specs.Trapezoids.{Trapezoid}
use Rattle.geo_stream.specs.Flattened.{end_to_end}
use Rattle.depot.specs.Content.{Content, IsLongerThan, with_said}
use Rattle.shot_writer.specs.declared.parts.Head.{Head}
use Rattle.shot_writer.specs.declared.parts.Sums.{Sums}
use Rattle.field_split.specs.Looks.{IsFieldShot, IsFirstTooWide, AreStripesOf}
use Rattle.field_output.specs.Stripes.{AreAllStripeLists, AreStripesPartWritten, with_stripe_files, sums_of, sums_from}
use Rattle.field_output.specs.declared.sums.StripeSums.{StripeSums}
use Rattle.mdp_job.specs.ShotFiles.{ShotData, HoldsShots, HoldsFault, pair_or}
use Rattle.job_report.specs.declared.faults.CheckFault.{CheckFault}
use Rattle.mdp_job.specs.FileFaults.{for_fault, never}

-- ---- which files can be split

-- no shot is past the reach of a field, and the shots meet at most 4,096 stripes
pub record CanBeSplit (size : ℤ) (shots : List Trapezoid) : Type 0 where
  pub within : All IsFieldShot shots
  pub few : (first last : ℤ) → AreStripesOf size shots first last → (last -ℤ first) <ℤ pos 4096

-- the name holds a shot file that can be split at the lines of fields of this size
pub record HoldsFields (size : ℤ) (c : Content) (file : List ℕ) (s : ShotData) : Type 0 where
  pub holds : HoldsShots c file s
  pub can : CanBeSplit size s.shots

-- the name holds a shot file, and this shot of it is the first that is past the reach of a field
pub record HoldsWide (c : Content) (file : List ℕ) (k : ℕ) : Type 0 where
  pub s : ShotData
  pub holds : HoldsShots c file s
  pub wide : IsFirstTooWide s.shots k

-- the stripes from the least to the greatest that a shot meets are this many, which is too many
pub record AreManyStripes (size : ℤ) (shots : List Trapezoid) (value : ℕ) : Type 0 where
  pub first : ℤ
  pub last : ℤ
  pub stripes : AreStripesOf size shots first last
  pub number : pos value ≡ (last -ℤ first) +ℤ pos 1
  pub many : 4096 < value

-- the name holds a shot file, no shot of it is past the reach of a field, and they meet this many stripes
pub record HoldsManyStripes (size : ℤ) (c : Content) (file : List ℕ) (value : ℕ) : Type 0 where
  pub s : ShotData
  pub holds : HoldsShots c file s
  pub within : All IsFieldShot s.shots
  pub many : AreManyStripes size s.shots value

-- why a file isn't split
abbrev pub IsFieldsFault : ℤ → Content → List ℕ → CheckFault → Type 0
IsFieldsFault size c file fault =
    for_fault (IsLongerThan 268435456 c file) (HoldsFault c file) never (HoldsWide c file) (HoldsManyStripes size c file) fault

-- ---- what is made of a file

-- what each stripe's file begins with: the file's number, and the pair of its records
abbrev pub head_of : ShotData → Head
head_of s = record { unit = s.unit; pair = pair_or s.pair }

-- The stripe lists of all stripes from the least that a shot meets to the greatest; none where there are no shots.
abbrev pub AreAllLists : ℤ → List Trapezoid → ℤ → List (List Trapezoid) → Type 0
AreAllLists size shots first lists =
    ((shots ≡ []) × (lists ≡ []))
    ⊎ ((last : ℤ) × AreStripesOf size shots first last × AreAllStripeLists shots size first last lists)

-- the content after the files of all stripes were made in order, each whole
abbrev pub with_all_stripes : Content → List ℕ → ShotData → ℤ → List (List Trapezoid) → Content
with_all_stripes before out s first lists = with_stripe_files before out (head_of s) first lists

-- ---- what is said

-- ` shots 2 triangles 384`
abbrev pub sums_text : Sums → List ℕ
sums_text sums = codes "shots " ++ decimal sums.shots ++ codes " triangles " ++ decimal sums.triangles ++ codes "\n"

-- `stripe -1 shots 2 triangles 384`
unfoldable pub stripe_line : StripeSums → List ℕ
stripe_line stripe =
    codes "stripe " ++ signed_decimal stripe.number ++ codes " shots " ++ decimal stripe.sums.shots ++ codes " triangles "
    ++ decimal stripe.sums.triangles ++ codes "\n"

-- a line for each stripe, and one for all: `shots 3 triangles 400`
abbrev pub lines_of_stripes : List StripeSums → Sums → List ℕ
lines_of_stripes each all = flat_map stripe_line each ++ sums_text all

abbrev pub split_text : ℤ → List (List Trapezoid) → List ℕ
split_text first lists = lines_of_stripes (sums_from first lists) (sums_of (end_to_end lists))

-- ---- how it ends

-- the files of all stripes are made, each whole, and nothing else has changed; the text is that of their lines
pub record AreAllMade (before now : Content) (size : ℤ) (out : List ℕ) (s : ShotData) (text : List ℕ) : Type 0 where
  pub first : ℤ
  pub lists : List (List Trapezoid)
  pub stripes : AreAllLists size s.shots first lists
  pub content : now ≡ with_all_stripes before out s first lists
  pub lines : text ≡ split_text first lists

-- the files of all stripes are made, and then their lines were said
pub record IsSplitWhole (before now : Content) (size : ℤ) (out : List ℕ) (s : ShotData) : Type 0 where
  pub made : Content
  pub text : List ℕ
  pub all : AreAllMade before made size out s text
  pub said : now ≡ with_said made text

-- The making of the files was cut short: those of the stripes below some stripe are whole, its own is as before or holds a
-- prefix of its text, and those above it are as before.
pub record IsSplitCutShort (before now : Content) (size : ℤ) (out : List ℕ) (s : ShotData) : Type 0 where
  pub first : ℤ
  pub last : ℤ
  pub stripes : AreStripesOf size s.shots first last
  pub files : AreStripesPartWritten before out (head_of s) s.shots size first last now

-- or all are whole
abbrev pub IsPartSplit : Content → Content → ℤ → List ℕ → ShotData → Type 0
IsPartSplit before now size out s = IsSplitCutShort before now size out s ⊎ ((text : List ℕ) × AreAllMade before now size out s text)
