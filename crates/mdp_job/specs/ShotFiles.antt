-- What the commands on a shot file read, `shots` and `pack` a plain one and `unpack` a packed one, and what they make of it.
use Rattle.std.specs.Prelude.{◌≡◌, ℕ, ◌≤◌, List, ◌++◌, length, Option, None, Some, codes, decimal}
use Rattle.depot.specs.Content.{Content, held_as, IsLongerThan}
use Rattle.layout_model.specs.declared.pair.Pair.{Pair}
use Rattle.oas_lex.specs.ShotText.{shot_text}
use Rattle.shot_reader.specs.Reading.{IsFileOf}
use Rattle.shot_reader.specs.Refusals.{IsFirstShotFault}
use Rattle.shot_reader.specs.declared.refusing.ShotBad.{ShotBad}
use Rattle.shot_listing.specs.Listing.{listing}
use Rattle.shot_repeat.specs.Packed.{IsPackedFile}
use Rattle.shot_repeat.specs.Packer.{packed_text, packed_records}
use Rattle.shot_repeat.specs.Packing.{IsPackedInto}
use Rattle.shot_repeat.specs.Refusals.{IsFirstPackFault}
use Rattle.shot_repeat.specs.declared.refusing.PackBad.{PackBad}
pub use Rattle.file_check.specs.Files.{ShotData}
use Rattle.job_report.specs.declared.faults.CheckFault.{CheckFault}
use Rattle.mdp_job.specs.FileFaults.{for_fault, never}

-- ---- what a name holds

-- the name holds the one text of this unit, this pair and these shots
pub record HoldsShots (c : Content) (file : List ℕ) (s : ShotData) : Type 0 where
  pub bytes : List ℕ
  pub held : held_as c file ≡ Some bytes
  pub short : length bytes ≤ 268435456
  pub form : IsFileOf bytes s.unit s.pair s.shots

-- the name holds bytes within the limit with this first fault
pub record HoldsFault (c : Content) (file : List ℕ) (bad : ShotBad) : Type 0 where
  pub bytes : List ℕ
  pub held : held_as c file ≡ Some bytes
  pub short : length bytes ≤ 268435456
  pub fault : IsFirstShotFault bytes bad

-- the name holds a packed shot file of this unit, this pair and these shots
pub record HoldsPacked (c : Content) (file : List ℕ) (s : ShotData) : Type 0 where
  pub bytes : List ℕ
  pub held : held_as c file ≡ Some bytes
  pub short : length bytes ≤ 268435456
  pub form : IsPackedFile bytes s.unit s.pair s.shots

-- the name holds bytes within the limit with this first fault as a packed shot file
pub record HoldsPackFault (c : Content) (file : List ℕ) (bad : PackBad) : Type 0 where
  pub bytes : List ℕ
  pub held : held_as c file ≡ Some bytes
  pub short : length bytes ≤ 268435456
  pub fault : IsFirstPackFault bytes bad

-- ---- why a file is refused

-- as a shot file
abbrev pub IsShotsFault : Content → List ℕ → CheckFault → Type 0
IsShotsFault c file fault = for_fault (IsLongerThan 268435456 c file) (HoldsFault c file) never never never fault

-- as a packed one
abbrev pub IsPackedFault : Content → List ℕ → CheckFault → Type 0
IsPackedFault c file fault = for_fault (IsLongerThan 268435456 c file) never (HoldsPackFault c file) never never fault

-- ---- what is made of a file, and said

-- the lines of `shots`
abbrev pub listed : ShotData → List ℕ
listed s = listing s.unit s.pair s.shots

-- the pair of the records, if there are any
abbrev pub pair_or : Option Pair → Pair
pair_or None = record { layer = 0; datatype = 0 }
pair_or (Some pair) = pair

-- the packed text, and how many records it has
pub record PackedShots (s : ShotData) : Type 0 where
  pub records : ℕ
  pub text : List ℕ
  pub is : IsPackedInto s.unit (pair_or s.pair).layer (pair_or s.pair).datatype s.shots records text

-- the plain text
abbrev pub plain_of : ShotData → List ℕ
plain_of s = shot_text s.unit (pair_or s.pair).layer (pair_or s.pair).datatype s.shots

-- `packed 3 shots in 1 records`
abbrev pub packed_line : (shots records : ℕ) → List ℕ
packed_line shots records = codes "packed " ++ decimal shots ++ codes " shots in " ++ decimal records ++ codes " records\n"

-- the packed text and the line of `pack`, as they are worked out: the text is that of `PackedShots`, and the only one
abbrev pub packed_of : ShotData → List ℕ
packed_of s = packed_text s.unit (pair_or s.pair).layer (pair_or s.pair).datatype s.shots

abbrev pub packed_said : ShotData → List ℕ
packed_said s = packed_line (length s.shots) (length (packed_records (pair_or s.pair).layer (pair_or s.pair).datatype s.shots))

-- `unpacked 3 shots`
abbrev pub unpacked_line : ℕ → List ℕ
unpacked_line shots = codes "unpacked " ++ decimal shots ++ codes " shots\n"

-- the line of `unpack`
abbrev pub unpacked_said : ShotData → List ℕ
unpacked_said s = unpacked_line (length s.shots)

-- Where a name holds this packed text, in any depot, it is a packed shot file within the limit, of the same number, pair and
-- shots, and of no others.
pub record IsGivenBack (s : ShotData) (text : List ℕ) : Type 0 where
  pub taken : (c : Content) (name : List ℕ) → held_as c name ≡ Some text → HoldsPacked c name s
  pub alone : (c : Content) (name : List ℕ) (other : ShotData) → held_as c name ≡ Some text → HoldsPacked c name other → other ≡ s
